use Rattle.std.proofs.Common.{◌≡◌, ◌<◌, get_or, length, ap, arith}
use Rattle.std.proofs.lemmas.List.{get_or_read, length-map}
use Rattle.explained_lanes.specs.Slots.{row_of}
use Rattle.explained_lanes.proofs.Slots.{rows_more, rows_set}
use Rattle.explained_lanes.proofs.net_rows.NetRows.write.Goals as goal

pub returns-then-slot-ne0-clause-rows : goal.returns-then-slot-ne0-clause-rows
returns-then-slot-ne0-clause-rows c =
    let o = c.self.inside in
    let in_range : c.args.net < length o.slots.items = omega (arith, c.requires, ap length c.self.view_is, length-map o.slots.items (row_of o.rows.items)) in
    let slot : c.index-slot.result.now ≡ get_or o.slots.items c.args.net 0 = get_or_read o.slots.items c.args.net c.index-slot.result.now in_range c.index-slot.ensures 0 in
    rw (← c.self.view_is) (rows_set o.slots.items o.rows.items c.self.invariant c.args.net in_range c.index-slot.result.now slot c.if-slot-ne0.true c.args.row)

pub returns-clause-rows : goal.returns-clause-rows
returns-clause-rows c =
    let o = c.self.inside in
    let in_range : c.args.net < length o.slots.items = omega (arith, c.requires, ap length c.self.view_is, length-map o.slots.items (row_of o.rows.items)) in
    let fresh : c.len-fresh.result ≡ length o.rows.items = omega (arith, c.len-fresh.ensures, o.rows.ok.0) in
    rw (fresh, c.in_ok-push.ensures.items, ← c.self.view_is) (rows_more o.slots.items o.rows.items c.self.invariant c.args.net in_range c.args.row)
