use Rattle.std.proofs.Common.{◌≡◌, ◌<◌, length, map, get_or, ap, ◌∙◌, arith}
use Rattle.scan_model.specs.Marks.{is_marked}
use Rattle.lane_rows.proofs.Once.{once, order_short}
use Rattle.lane_rows.proofs.Sinks.{made_for}
use Rattle.lane_rows.proofs.wiring.sinks_of.Goals as goal

pub live_places-requires-clause-fits : goal.live_places-requires-clause-fits
live_places-requires-clause-fits c = omega (arith, order_short c.args.circuit.now c.args.order.now c.requires.order, c.nets.ensures.circuit.nets_fit)

pub live_places-requires-clause-once : goal.live_places-requires-clause-once
live_places-requires-clause-once c = once c.args.circuit.now c.args.order.now c.requires.order

pub overflow_cast-order : goal.overflow_cast-order
overflow_cast-order c = omega (arith, order_short c.args.circuit.now c.args.order.now c.requires.order, c.nets.ensures.circuit.nets_fit)

pub returns : goal.returns
returns c =
    let names = c.in_ok-reads.reads.places.items in
    let keys = c.in_ok-reads.reads.nets.items in
    let count : c.len-nets.result ≡ length c.args.circuit.now.nets = c.len-nets.ensures ∙ ap length c.nets.ensures.value in
    let reads = rw c.deref.ensures.value at c.in_ok-reads.ensures in
    made_for c.args.circuit.now c.nets.ensures.circuit.netlist c.args.order.now c.in_ok-places.places.items names keys (is_marked c.args.marks.now) c.in_ok-sinks.sinks c.requires.order
    c.in_ok-places.ensures.places
    (omega (arith, c.in_ok-places.ensures.len, c.requires.marks))
    reads
    (omega (arith, c.in_ok-sinks.ensures.len, c.in_ok-groups.ensures.len, count))
    (λ n lt.
    let inside : n < c.len-nets.result = omega (arith, count) in
    let within : n < length c.in_ok-groups.groups = omega (arith, c.in_ok-groups.ensures.len) in
    (rw c.deref-3.ensures.value at (c.in_ok-sinks.ensures.groups n within))
    ∙ ap (map (λ i. get_or names i 0)) (rw c.deref-2.ensures.value at (c.in_ok-groups.ensures.groups n inside)))
