use Rattle.std.proofs.Common.{refl, arith}
use Rattle.bench_reader.proofs.NetsByName.{found_number, found_word, no_word, use_past, use_here, pin_added}
use Rattle.bench_reader.proofs.second_round.pins_of.Goals as goal

pub loop-used-preserved : goal.loop-used-preserved
loop-used-preserved c = record {
  pins = pin_added c.args.defined.now c.args.uses.now c.loop-used.used-index _ c.loop-used-test.true c.in-Some.net c.loop-used.pins.items c.push_reserved.new.self.items (found_number c.args.defined.now _ c.in-Some.net c.in-Some.ensures) c.loop-used.invariant.pins c.push_reserved.ensures.items;
  none = use_past c.args.defined.now c.args.uses.now c.loop-used.used-index _ c.loop-used-test.true _ (found_word c.args.defined.now _ c.in-Some.net c.in-Some.ensures) c.loop-used.invariant.none;
  room = omega (arith, c.push_reserved.ensures.len, c.push_reserved.ensures.capacity, c.loop-used.invariant.room);
}

pub returns-in_default-clause-fault : goal.returns-in_default-clause-fault
returns-in_default-clause-fault c =
    (use_here c.args.defined.now c.args.uses.now c.loop-used.used-index _ c.loop-used-test.true _ (no_word c.args.defined.now _ c.in_default.ensures) c.loop-used.invariant.none, refl)
