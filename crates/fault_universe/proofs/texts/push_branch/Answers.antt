use Rattle.std.proofs.Common.{◌∷◌, ◌∙◌}
use Rattle.std.specs.Prelude.{codes}
use Rattle.std.proofs.lemmas.Result.{on_ok_weaker}
use Rattle.scan_model.specs.Netlist.{pin_at}
use Rattle.scan_model.specs.ScanTest.{name_of}
use Rattle.scan_model.specs.ReportText.{stuck_word, branch_words}
use Rattle.fault_universe.proofs.SpacedWords.{word_more}
use Rattle.fault_universe.proofs.texts.push_branch.Goals as goal

pub returns : goal.returns
returns c =
    let t = c.args.parts.now in
    let pin = pin_at t.netlist c.args.pin in
    on_ok_weaker c.append.result
    (λ done. done ∙ rw (c.in_ok-push_branch_site.ensures, c.stuck_ending.ensures) (word_more c.args.line.now (codes "branch") (name_of t pin.net ∷ branch_words t pin.place) (stuck_word c.args.value)))
    c.append.ensures.ok
