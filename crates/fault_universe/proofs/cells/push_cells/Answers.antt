use Rattle.std.proofs.Common.{◌++◌, List, ap, ◌∙◌, arith}
use Rattle.std.specs.Prelude.{flat_map}
use Rattle.std.specs.List.{range_with_len}
use Rattle.scan_model.specs.declared.fault.Fault.{Fault}
use Rattle.scan_model.specs.Universe.{cell_faults}
use Rattle.fault_universe.proofs.CellPlaces.{cells_more, chain_room}
use Rattle.fault_universe.proofs.cells.push_cells.Goals as goal

pub push_chain-requires : goal.push_chain-requires
push_chain-requires c = omega (arith, c.len.ensures, chain_room c.chains_of-chains.result.now c.loop-h.h c.index-chains-h.result c.loop-h-test.true, c.chains_of-chains.ensures.few_cells)

pub loop-h-preserved : goal.loop-h-preserved
loop-h-preserved c =
    let chains = c.chains_of-chains.result.now in
    let d = c.index-chains-h.result in
    c.in_ok-push_chain.ensures ∙ ap (λ (fs : List Fault). fs ++ flat_map (cell_faults c.loop-h.h) (range_with_len 0 c.len.result)) c.loop-h.invariant
    ∙ rw c.len.ensures (cells_more c.args.faults.now chains c.loop-h.h d c.loop-h-test.true)
