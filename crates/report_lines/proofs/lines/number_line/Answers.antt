use Rattle.std.proofs.Common.{◌≡◌, ◌∷◌, ◌++◌, [], append_assoc, ◌∙◌}
use Rattle.std.specs.Prelude.{decimal}
use Rattle.scan_model.specs.ReportText.{spaced}
use Rattle.report_lines.proofs.LineSteps.{line_ended}
use Rattle.report_lines.proofs.lines.number_line.Goals as goal

pub returns : goal.returns
returns c =
    let word = c.args.word.now in
    let digits = decimal c.args.number in
    let written : c.push_number.new.line ≡ c.args.draft.now.text ++ spaced (word ∷ digits ∷ []) = c.in_ok-push_number.ensures ∙ rw c.in_ok-append.ensures.ok (append_assoc c.args.draft.now.text word (32 ∷ digits)) in
    line_ended c.end_line.result c.args.draft.now c.end_line.new.draft c.push_number.new.line (spaced (word ∷ digits ∷ [])) written c.end_line.ensures.text c.end_line.ensures.ends
