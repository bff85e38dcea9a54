use Rattle.std.proofs.Common.{◌++◌, List, ℕ, sym, ap, ◌∙◌}
use Rattle.std.specs.Prelude.{flat_map}
use Rattle.std.specs.List.{range_with_len}
use Rattle.std.proofs.lemmas.List.{flat_map_more}
use Rattle.scan_model.specs.declared.fault.Fault.{Fault}
use Rattle.scan_model.specs.Universe.{cell_faults}
use Rattle.fault_universe.proofs.BitSteps.{range_more}
use Rattle.fault_universe.proofs.cells.push_chain.Goals as goal

pub loop-pos-preserved : goal.loop-pos-preserved
loop-pos-preserved c =
    let f = cell_faults c.args.chain in
    c.in_ok-push_cell.ensures ∙ ap (λ (fs : List Fault). fs ++ f c.loop-pos.pos) c.loop-pos.invariant
    ∙ flat_map_more f c.args.faults.now (range_with_len 0 c.loop-pos.pos) c.loop-pos.pos
    ∙ ap (λ (is : List ℕ). c.args.faults.now ++ flat_map f is) (sym (range_more c.loop-pos.pos))
