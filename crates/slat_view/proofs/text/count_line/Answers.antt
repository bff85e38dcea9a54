use Rattle.scan_model.specs.ReportText.{spaced}
use Rattle.slat_view.specs.SlatText.{count_words}
use Rattle.slat_view.proofs.Texts.{line_ended}
use Rattle.slat_view.proofs.text.count_line.Goals as goal

pub returns : goal.returns
returns c = line_ended c.push.result c.args.text.now c.push.new.self c.push_count.new.text (spaced (count_words c.args.count)) c.in_ok-push_count.ensures c.push.ensures.ok
