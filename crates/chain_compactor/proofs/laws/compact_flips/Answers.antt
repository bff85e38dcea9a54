use Rattle.std.proofs.lemmas.List.Elements.{recursion_from_All}
use Rattle.scan_model.specs.ScanTest.{IsPoint}
use Rattle.chain_compactor.specs.Flips.{members_at}
use Rattle.chain_compactor.proofs.UpstreamFlips.{flips_behind}
use Rattle.chain_compactor.proofs.Members.{members_are_points}
use Rattle.chain_compactor.proofs.CompactModel.{capture_fails, shift_fails}
use Rattle.chain_compactor.proofs.laws.compact_flips.Goals as goal

pub returns-clause-capture : goal.returns-clause-capture
returns-clause-capture c f w q there logic lt captures =
    capture_fails c.args.parts.now c.circuit.ensures.fits c.order.result.now (rw c.circuit.ensures.value at c.order.ensures) c.args.compact.now c.requires f w q there logic lt captures

pub returns-clause-shift : goal.returns-clause-shift
returns-clause-shift c f w q logic lt shifts =
    shift_fails c.args.parts.now c.circuit.ensures.fits c.order.result.now (rw c.circuit.ensures.value at c.order.ensures) c.args.compact.now c.requires f w q logic lt shifts

pub returns-clause-downstream : goal.returns-clause-downstream
returns-clause-downstream c w q p n g i kind lt in_range net at drives one =
    let t = c.args.parts.now in
    let k = c.args.compact.now in
    flips_behind t c.circuit.ensures.fits c.order.result.now (rw c.circuit.ensures.value at c.order.ensures) w p n g i kind in_range net at drives one (members_at t k q) (recursion_from_All (IsPoint t) (members_at t k q) (members_are_points t k c.requires q lt))
