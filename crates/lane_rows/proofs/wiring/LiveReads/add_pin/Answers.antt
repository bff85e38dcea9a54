use Rattle.std.proofs.Common.{arith}
use Rattle.lane_rows.proofs.LiveReads.{passed_over, added}
use Rattle.lane_rows.proofs.wiring.LiveReads.add_pin.Goals as goal

pub returns-then-place-end : goal.returns-then-place-end
returns-then-place-end c = passed_over c.args.circuit.now c.args.places.now c.args.end c.args.pin c.args.self.now.nets.items c.args.self.now.places.items c.requires.reads
    (omega (arith, c.if-place-end.true, c.place_of-place.ensures))

pub returns : goal.returns
returns c = rw (c.in_ok-push.ensures.items, c.in_ok-push-2.ensures.items)
    (added c.args.circuit.now c.args.places.now c.args.end c.args.pin c.args.self.now.nets.items c.args.self.now.places.items c.requires.reads c.net_of.result c.place_of-place.result
    c.net_of.ensures.value c.place_of-place.ensures c.net_of.ensures.range (omega (arith, c.if-place-end.false)))
