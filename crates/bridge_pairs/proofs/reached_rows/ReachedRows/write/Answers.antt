use Rattle.std.proofs.Common.{◌≡◌, ◌<◌, ◌+◌, get_or, length, ap, sym, ◌∙◌, arith}
use Rattle.std.proofs.lemmas.List.{get_or_read, length-map}
use Rattle.bridge_pairs.specs.PairRows.{row_at}
use Rattle.bridge_pairs.proofs.Slots.{room_left, slots_push, rows_push, rows_set}
use Rattle.bridge_pairs.proofs.reached_rows.ReachedRows.write.Goals as goal

pub returns-then-slot-ne0-clause-written : goal.returns-then-slot-ne0-clause-written
returns-then-slot-ne0-clause-written c =
    let r = c.self.inside in
    let in_range : c.args.net < length r.slots.items = omega (arith, c.requires, ap length c.self.view_is, length-map r.slots.items (row_at r.rows.items)) in
    let slot : c.index-slot.result.now ≡ get_or r.slots.items c.args.net 0 = get_or_read r.slots.items c.args.net c.index-slot.result.now in_range c.index-slot.ensures 0 in
    rw (← c.self.view_is) (rows_set r.slots.items r.nets.items r.rows.items c.self.invariant c.args.net in_range c.index-slot.result.now slot c.if-slot-ne0.true c.args.row)

pub overflow_cast-len : goal.overflow_cast-len
overflow_cast-len c =
    let r = c.self.inside in
    let in_range : c.args.net < length r.slots.items = omega (arith, c.requires, ap length c.self.view_is, length-map r.slots.items (row_at r.rows.items)) in
    let free : get_or r.slots.items c.args.net 0 ≡ 0 = sym (get_or_read r.slots.items c.args.net c.index-slot.result.now in_range c.index-slot.ensures 0) ∙ c.if-slot-ne0.false in
    omega (arith, room_left r.slots.items r.nets.items r.rows.items c.self.invariant c.args.net in_range free c.args.row, c.self.invariant.fits, c.len.ensures, c.push_reserved.ensures.len, c.in_ok-reserve.ensures.len, r.nets.ok.0)

pub invariant_of-self-2 : goal.invariant_of-self-2
invariant_of-self-2 c =
    let r = c.self.inside in
    let in_range : c.args.net < length r.slots.items = omega (arith, c.requires, ap length c.self.view_is, length-map r.slots.items (row_at r.rows.items)) in
    let free : get_or r.slots.items c.args.net 0 ≡ 0 = sym (get_or_read r.slots.items c.args.net c.index-slot.result.now in_range c.index-slot.ensures 0) ∙ c.if-slot-ne0.false in
    let len : c.len.result ≡ length r.nets.items + 1 = omega (arith, c.len.ensures, c.push_reserved.ensures.len, c.in_ok-reserve.ensures.len, r.nets.ok.0) in
    rw (len, c.push_reserved.ensures.items, c.push_reserved-2.ensures.items, c.reserve.ensures.items, c.reserve-2.ensures.items)
    (slots_push r.slots.items r.nets.items r.rows.items c.self.invariant c.args.net in_range free c.args.row)

pub returns-clause-written : goal.returns-clause-written
returns-clause-written c =
    let r = c.self.inside in
    let in_range : c.args.net < length r.slots.items = omega (arith, c.requires, ap length c.self.view_is, length-map r.slots.items (row_at r.rows.items)) in
    let free : get_or r.slots.items c.args.net 0 ≡ 0 = sym (get_or_read r.slots.items c.args.net c.index-slot.result.now in_range c.index-slot.ensures 0) ∙ c.if-slot-ne0.false in
    let len : c.len.result ≡ length r.nets.items + 1 = omega (arith, c.len.ensures, c.push_reserved.ensures.len, c.in_ok-reserve.ensures.len, r.nets.ok.0) in
    rw (len, c.push_reserved-2.ensures.items, c.reserve-2.ensures.items, ← c.self.view_is)
    (rows_push r.slots.items r.nets.items r.rows.items c.self.invariant c.args.net in_range free c.args.row)
