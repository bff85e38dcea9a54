use Rattle.slat_view.specs.SlatText.{count_line}
use Rattle.slat_view.proofs.Texts.{mapped_more}
use Rattle.slat_view.proofs.text.count_lines.Goals as goal

pub loop-i-preserved : goal.loop-i-preserved
loop-i-preserved c =
    mapped_more count_line c.args.rows.now c.loop-i.i _ c.args.text.now c.loop-i.text c.count_line.new.text c.loop-i-test.true c.loop-i.invariant c.in_ok-count_line.ensures
