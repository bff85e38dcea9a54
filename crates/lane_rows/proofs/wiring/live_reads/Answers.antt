use Rattle.std.proofs.Common.{◌≡◌, ℕ, length, ap, subst, arith}
use Rattle.lane_rows.specs.Wiring.{AreLiveReads}
use Rattle.lane_rows.proofs.LiveReads.{none_yet}
use Rattle.lane_rows.proofs.wiring.live_reads.Goals as goal

pub loop-pin-init : goal.loop-pin-init
loop-pin-init c = rw (c.in_ok-nets.ensures.items, c.in_ok-at.ensures.items) (none_yet c.args.circuit.now c.args.places.now c.args.end)

pub returns : goal.returns
returns c =
    let whole : c.loop-pin.pin ≡ length c.args.circuit.now.pins = omega (arith, c.loop-pin-test.false, c.loop-pin.auto.pin-end, c.len-pin-end.ensures, ap length c.pins-3.ensures.value) in
    subst (λ (n : ℕ). AreLiveReads c.args.circuit.now c.args.places.now c.args.end n c.loop-pin.reads.nets.items c.loop-pin.reads.places.items) whole c.loop-pin.invariant
