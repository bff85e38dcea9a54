use Rattle.std.proofs.Common.{length, take, arith}
use Rattle.std.proofs.lemmas.List.{length-take}
use Rattle.scan_model.specs.declared.circuit.PinPlace.TheVariants.{Operand}
use Rattle.scan_model.proofs.PinCounts.{pin_counted, count_few, pin_net_there}
use Rattle.scan_model.proofs.branches.pin_counts.Goals as goal

pub overflow_add-index_mut : goal.overflow_add-index_mut
overflow_add-index_mut c =
    let there = pin_net_there c.args.nets.now c.args.pins.now c.loop-pin.pin-index record { net = 0; place = Operand 0 0 } c.requires.wired c.loop-pin-test.true in
    let few = count_few (length c.args.nets.now) (take c.loop-pin.pin-index c.args.pins.now) c.loop-pin.counts.items _ c.index_mut.result.now c.loop-pin.invariant there c.index_mut.ensures.value in
    omega (arith, few, length-take c.loop-pin.pin-index c.args.pins.now, c.requires.few)

pub loop-pin-preserved : goal.loop-pin-preserved
loop-pin-preserved c =
    let there = pin_net_there c.args.nets.now c.args.pins.now c.loop-pin.pin-index record { net = 0; place = Operand 0 0 } c.requires.wired c.loop-pin-test.true in
    pin_counted (length c.args.nets.now) c.args.pins.now c.loop-pin.counts.items c.loop-pin.pin-index c.index_mut.result.now record { net = 0; place = Operand 0 0 } c.loop-pin.invariant c.loop-pin-test.true there c.index_mut.ensures.value
