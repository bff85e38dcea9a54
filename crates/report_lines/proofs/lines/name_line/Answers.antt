use Rattle.std.proofs.Common.{◌≡◌, ◌∷◌, ◌++◌, [], append_assoc, ◌∙◌}
use Rattle.scan_model.specs.ReportText.{spaced}
use Rattle.report_lines.proofs.LineSteps.{line_ended}
use Rattle.report_lines.proofs.lines.name_line.Goals as goal

pub returns : goal.returns
returns c =
    let word = c.args.word.now in
    let name = c.args.name.now in
    let written : c.push_word.new.line ≡ c.args.draft.now.text ++ spaced (word ∷ name ∷ []) = c.in_ok-push_word.ensures ∙ rw c.in_ok-append.ensures.ok (append_assoc c.args.draft.now.text word (32 ∷ name)) in
    line_ended c.end_line.result c.args.draft.now c.end_line.new.draft c.push_word.new.line (spaced (word ∷ name ∷ [])) written c.end_line.ensures.text c.end_line.ensures.ends
