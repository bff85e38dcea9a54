use Rattle.std.proofs.Common.{rules, ◌≡◌, ◌∷◌, ◌∙◌}
use Rattle.std.specs.Prelude.{codes}
use Rattle.std.proofs.lemmas.Result.{on_ok_weaker}
use Rattle.scan_model.specs.Netlist.{pin_at}
use Rattle.scan_model.specs.ScanTest.{name_of}
use Rattle.scan_model.specs.ReportText.{branch_words}
use Rattle.fault_universe.proofs.SpacedWords.{word_more}
use Rattle.two_frame.specs.TwoFrame.{slow_word}
use Rattle.two_frame.proofs.names.push_slow_branch.Goals as goal

pub returns : goal.returns
returns c =
    let t = c.args.parts.now in
    let pin = pin_at t.netlist c.args.pin in
    let word : c.as_bytes.result.now ≡ slow_word c.args.value = search rules in
    on_ok_weaker c.push_word.result
    (λ done. done ∙ rw (c.in_ok-push_branch_site.ensures, word) (word_more c.args.line.now (codes "branch") (name_of t pin.net ∷ branch_words t pin.place) (slow_word c.args.value)))
    c.push_word.ensures
