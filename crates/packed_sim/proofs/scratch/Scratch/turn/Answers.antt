use Rattle.std.proofs.Common.{◌≡◌, ◌<◌, ℕ, List, ap, length, ◌∙◌, get_or, arith, rules}
use Rattle.std.proofs.lemmas.List.Elements.{Contains-get_or}
use Rattle.lane_rows.specs.Wiring.{sinks_of}
use Rattle.lane_rows.specs.Planes.{held}
use Rattle.lane_rows.proofs.KeptGates.{kept_at}
use Rattle.packed_sim.specs.Rows.{row_now}
use Rattle.packed_sim.proofs.Turns.{turn_of_set, turn_of_same}
use Rattle.packed_sim.proofs.scratch.Scratch.turn.Goals as goal

pub put-requires-clause-places : goal.put-requires-clause-places
put-requires-clause-places g c i d lt =
    let kept = c.index.result.now in
    let is : kept.net ≡ get_or c.args.wiring.now.order.items c.args.place 0 = (kept_at c.args.circuit.now c.args.wiring.now.order.items c.args.wiring.now.gates.items c.args.wiring.now.operands.items c.args.place kept c.requires.kept c.requires.place c.index.ensures).net in
    let in_range : kept.net < length c.args.circuit.now.nets = omega (arith, is, (c.requires.wiring.ordered.gates c.args.place c.requires.place).0) in
    let there : i < length (sinks_of c.args.wiring.now.sinks kept.net) = rw (← c.group-readers.ensures) lt in
    let at = c.requires.wiring.places kept.net (get_or (sinks_of c.args.wiring.now.sinks kept.net) i d) in_range (Contains-get_or (sinks_of c.args.wiring.now.sinks kept.net) i d there) in
    omega (arith, ap (λ (found : List ℕ). get_or found i d) c.group-readers.ensures, at.0, c.requires.fits.room, c.remove.ensures.room)

pub returns-then-not-same : goal.returns-then-not-same
returns-then-not-same g c =
    let order = c.args.wiring.now.order.items in
    let is = (kept_at c.args.circuit.now order c.args.wiring.now.gates.items c.args.wiring.now.operands.items c.args.place c.index.result.now c.requires.kept c.requires.place c.index.ensures).net in
    let set = c.put.ensures c.args.wiring.now.sinks c.group-readers.ensures in
    record {
      turn = turn_of_set c.args.circuit.now order c.args.wiring.now.sinks c.args.good.now c.args.place c.args.self.now c.put.new.self c.remove.new.self c.gate_row-row.result
          (omega (arith, (c.requires.wiring.ordered.gates c.args.place c.requires.place).0, c.requires.fits.own))
          (rw (← is) set.overlay) c.remove.ensures.places (rw (← is) set.waiting) (set.room ∙ c.remove.ensures.room) (rw (← is) set.moved) set.moved_room (rw c.over-changed.ensures at c.gate_row-row.ensures);
      steps = search rules;
    }

pub returns-else-not-same-clause-turn : goal.returns-else-not-same-clause-turn
returns-else-not-same-clause-turn g c =
    let order = c.args.wiring.now.order.items in
    let is = (kept_at c.args.circuit.now order c.args.wiring.now.gates.items c.args.wiring.now.operands.items c.args.place c.index.result.now c.requires.kept c.requires.place c.index.ensures).net in
    turn_of_same c.args.circuit.now order c.args.wiring.now.sinks c.args.good.now c.args.place c.args.self.now c.args.self.now c.remove.new.self c.gate_row-row.result
    c.remove.ensures.places c.remove.ensures.room
    (λ j lt. (rw c.over-changed.ensures at c.has_row-same.ensures) c.if-not-same.false j lt ∙ ap (λ (n : ℕ). held (row_now c.args.self.now.overlay c.args.good.now n) j) is)
    (rw c.over-changed.ensures at c.gate_row-row.ensures)
