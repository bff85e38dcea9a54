use Rattle.std.proofs.Common.{◌≡◌, ◌∷◌, ◌++◌, ◌∙◌}
use Rattle.std.specs.Prelude.{decimal}
use Rattle.scan_model.specs.ReportText.{spaced}
use Rattle.fault_universe.proofs.SpacedWords.{words_are}
use Rattle.report_lines.proofs.LineSteps.{line_ended}
use Rattle.report_lines.proofs.lines.bit_line.Goals as goal

pub returns : goal.returns
returns g c =
    let form = g.N.ReportNames.form c.args.names.now in
    let bit = c.args.bit.now in
    let words = c.args.word.now ∷ decimal bit.pattern ∷ form.point bit.point in
    let written : c.push_point.new.line ≡ c.args.draft.now.text ++ spaced words =
    c.in_ok-push_point.ensures ∙ rw (c.in_ok-push_number.ensures, c.in_ok-append.ensures.ok, c.from.ensures) (words_are c.args.draft.now.text c.args.word.now (decimal bit.pattern) (form.point bit.point)) in
    line_ended c.end_line.result c.args.draft.now c.end_line.new.draft c.push_point.new.line (spaced words) written c.end_line.ensures.text c.end_line.ensures.ends
