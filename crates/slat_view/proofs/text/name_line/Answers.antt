use Rattle.std.proofs.Common.{◌≡◌, ◌∷◌, ◌++◌, [], append_assoc, ◌∙◌}
use Rattle.std.specs.Prelude.{decimal}
use Rattle.scan_model.specs.ReportText.{spaced}
use Rattle.slat_view.proofs.Texts.{line_ended}
use Rattle.slat_view.proofs.text.name_line.Goals as goal

pub returns : goal.returns
returns c =
    let word = c.args.word.now in
    let rest = c.args.name.now in
    let written : c.push_word.new.line ≡ c.args.text.now ++ spaced (word ∷ rest ∷ []) = c.in_ok-push_word.ensures ∙ rw c.in_ok-append.ensures.ok (append_assoc c.args.text.now word (32 ∷ rest)) in
    line_ended c.push.result c.args.text.now c.push.new.self c.push_word.new.line (spaced (word ∷ rest ∷ [])) written c.push.ensures.ok
