use Rattle.std.proofs.Common.{◌≤◌, ◌+◌, drop, subst, ◌∙◌, sym, arith}
use Rattle.std.specs.Prelude.{count_by}
use Rattle.scan_model.specs.Netlist.{Netlist}
use Rattle.scan_model.specs.ScanTest.{chain_at}
use Rattle.packed_sim.specs.Propagation.{IsClosed, is_downstream}
use Rattle.packed_sim.proofs.Belonging.{few_steps}
use Rattle.packed_sim.proofs.Spreading.{behind_closed}
use Rattle.packed_sim.proofs.Loading.{loading_begins, loading_ends, above_lt, above_apart}
use Rattle.packed_sim.proofs.good.PackedGood.load.Goals as goal

pub loop-at-init : goal.loop-at-init
loop-at-init g c = rw c.chain_len-at.ensures (loading_begins c.args.parts.now c.chains.ensures.fits c.args.self.now c.requires.good c.args.block c.requires.block c.args.fault_cell.0 c.requires.chain c.args.fault_cell.1 c.args.kind c.requires.pos c.args.scratch.now c.requires.scratch)

pub load_cell-requires : goal.load_cell-requires
load_cell-requires g c = record {
  good = c.requires.good;
  block = c.requires.block;
  chain = c.requires.chain;
  above = omega arith;
  within = c.loop-at.invariant.at_lt;
  opened = c.loop-at.invariant.opens;
}

pub loop-at-preserved : goal.loop-at-preserved
loop-at-preserved g c = record {
  opens = c.load_cell.ensures.opened;
  above_le = omega arith;
  at_lt = omega (arith, c.loop-at.invariant.at_lt);
  within = c.load_cell.ensures.within c.args.fault_cell.1 (omega arith) c.loop-at.invariant.within;
  rooms = c.load_cell.ensures.room ∙ c.loop-at.invariant.rooms;
}

pub settle-requires-clause-wiring : goal.settle-requires-clause-wiring
settle-requires-clause-wiring g c = rw c.circuit-circuit.ensures.value c.requires.good.built.wired.wired

pub settle-requires-clause-kept : goal.settle-requires-clause-kept
settle-requires-clause-kept g c = rw c.circuit-circuit.ensures.value c.requires.good.built.kept

pub settle-requires-clause-fits : goal.settle-requires-clause-fits
settle-requires-clause-fits g c = rw (c.circuit-circuit.ensures.value, c.values-good.ensures) c.loop-at.invariant.opens.fits

pub returns-clause-loaded : goal.returns-clause-loaded
returns-clause-loaded g c = loading_ends c.args.parts.now c.chains.ensures.fits c.args.self.now c.requires.good c.args.block c.requires.block c.args.fault_cell.0 c.requires.chain c.args.fault_cell.1 c.args.kind c.requires.pos
    c.loop-at.at c.args.scratch.now c.loop-at.scratch c.settle.new.self c.requires.scratch.inside c.loop-at-test.false c.loop-at.invariant
    (rw (c.circuit-circuit.ensures.value, c.values-good.ensures) at c.settle.ensures.fits) c.settle.ensures.empty c.settle.ensures.room
    (rw (c.circuit-circuit.ensures.value, c.values-good.ensures) at c.settle.ensures.leaves)
    (rw (c.circuit-circuit.ensures.value, c.values-good.ensures) at c.settle.ensures.settled)

pub returns-clause-steps : goal.returns-clause-steps
returns-clause-steps g c =
    let t = c.args.parts.now in
    let s = c.args.self.now in
    let nets = drop (c.args.fault_cell.1 + 1) (chain_at t c.args.fault_cell.0).cells in
    let order = s.wiring.order.items in
    let closed : IsClosed t.netlist (is_downstream t.netlist nets) = behind_closed t.netlist order c.chains.ensures.fits.circuit.netlist c.requires.good.built.wired.wired.ordered nets
    (above_lt t c.chains.ensures.fits s c.requires.good c.args.block c.requires.block c.args.fault_cell.0 c.requires.chain c.args.fault_cell.1)
    (above_apart t c.chains.ensures.fits s c.requires.good c.args.block c.requires.block c.args.fault_cell.0 c.requires.chain c.args.fault_cell.1) in
    let few : c.settle.new.steps ≤ c.args.steps.now + count_by (is_downstream t.netlist nets) order = c.settle.ensures.steps (is_downstream t.netlist nets) (subst (λ (n : Netlist). IsClosed n (is_downstream t.netlist nets)) (sym c.circuit-circuit.ensures.value) closed) c.loop-at.invariant.within in
    omega (arith, few, few_steps t c.chains.ensures.fits s c.requires.good.built nets)
