use Rattle.std.proofs.Common.{◌∷◌, []}
use Rattle.std.specs.Prelude.{codes, decimal}
use Rattle.std.proofs.lemmas.Result.{on_ok_weaker}
use Rattle.scan_model.specs.ReportText.{line}
use Rattle.slat_view.proofs.Texts.{both_added}
use Rattle.slat_view.proofs.text.totals.Goals as goal

pub returns : goal.returns
returns c =
    let failing = line (codes "failing-patterns" ∷ decimal c.args.failing ∷ []) in
    let explained = line (codes "slat-patterns" ∷ decimal c.args.explained ∷ []) in
    on_ok_weaker c.number_line-2.result (λ last. both_added (failing ∷ []) (explained ∷ []) c.args.text.now c.number_line.new.text c.number_line-2.new.text c.in_ok-number_line.ensures last) c.number_line-2.ensures
