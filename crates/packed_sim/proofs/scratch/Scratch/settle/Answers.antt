use Rattle.packed_sim.proofs.Settled.{so_far_more, all_settled, all_ticks}
use Rattle.packed_sim.proofs.scratch.Scratch.settle.Goals as goal

pub loop-place-preserved : goal.loop-place-preserved
loop-place-preserved g c = rw c.turn.ensures.steps (so_far_more c.args.circuit.now c.args.wiring.now.order.items c.args.wiring.now.sinks c.args.good.now c.nets.ensures.circuit.netlist c.requires.wiring
    c.args.self.now c.loop-place.self c.turn.new.self c.loop-place.from c.args.steps.now c.loop-place.steps c.in-Some.place c.loop-place.invariant c.in-Some.ensures c.turn.ensures.turn)

pub returns-clause-settled : goal.returns-clause-settled
returns-clause-settled g c = all_settled c.args.circuit.now c.args.wiring.now.order.items c.args.wiring.now.sinks c.args.good.now
    c.args.self.now c.loop-place.self c.loop-place.from c.args.steps.now c.loop-place.steps c.loop-place.invariant c.in_default.ensures

pub returns-clause-steps : goal.returns-clause-steps
returns-clause-steps g c = all_ticks c.args.circuit.now c.args.wiring.now.order.items c.args.wiring.now.sinks c.args.good.now
    c.args.self.now c.loop-place.self c.loop-place.from c.args.steps.now c.loop-place.steps c.loop-place.invariant c.in_default.ensures
