use Rattle.std.proofs.Common.{◌≡◌, ◌<◌, ◌≤◌, ◌-◌, ℕ, Some, get_or, length, ap, sym, ◌∙◌, arith}
use Rattle.std.proofs.lemmas.List.{get_or_read, length-map}
use Rattle.lane_rows.specs.Planes.{Planes}
use Rattle.packed_sim.specs.Rows.{no_row, row_at, slots_of}
use Rattle.packed_sim.proofs.Dense.{own_of_home, own_of_place, own_inside}
use Rattle.packed_sim.proofs.overlay.Overlay.own.Goals as goal

pub index-requires : goal.index-requires
index-requires c =
    let o = c.self.inside in
    let in_range : c.args.net < length o.places.items = omega (arith, c.requires, ap length c.self.view_is, length-map (slots_of o.places.items) (row_at o.rows.items), length-map o.places.items (λ p. p - 2147483647)) in
    let place : c.index-place.result.now ≡ get_or o.places.items c.args.net 0 = get_or_read o.places.items c.args.net c.index-place.result.now in_range c.index-place.ensures 0 in
    let taken : 2147483648 ≤ get_or o.places.items c.args.net 0 = omega (arith, place, c.if-place-lt-OWN.false) in
    omega (arith, own_inside o.places.items o.nets.items o.rows.items _ _ c.self.invariant c.args.net in_range no_row taken, place, o.rows.ok.0)

pub returns-then-place-lt-OWN : goal.returns-then-place-lt-OWN
returns-then-place-lt-OWN c =
    let o = c.self.inside in
    let in_range : c.args.net < length o.places.items = omega (arith, c.requires, ap length c.self.view_is, length-map (slots_of o.places.items) (row_at o.rows.items), length-map o.places.items (λ p. p - 2147483647)) in
    let place : c.index-place.result.now ≡ get_or o.places.items c.args.net 0 = get_or_read o.places.items c.args.net c.index-place.result.now in_range c.index-place.ensures 0 in
    rw (← c.self.view_is) (sym (own_of_home o.rows.items o.places.items c.args.net (omega (arith, place, c.if-place-lt-OWN.true))))

pub returns-else-place-lt-OWN : goal.returns-else-place-lt-OWN
returns-else-place-lt-OWN c =
    let o = c.self.inside in
    let in_range : c.args.net < length o.places.items = omega (arith, c.requires, ap length c.self.view_is, length-map (slots_of o.places.items) (row_at o.rows.items), length-map o.places.items (λ p. p - 2147483647)) in
    let place : c.index-place.result.now ≡ get_or o.places.items c.args.net 0 = get_or_read o.places.items c.args.net c.index-place.result.now in_range c.index-place.ensures 0 in
    let taken : 2147483648 ≤ get_or o.places.items c.args.net 0 = omega (arith, place, c.if-place-lt-OWN.false) in
    let at : c.index-place.result.now - 2147483648 ≡ get_or o.places.items c.args.net 0 - 2147483648 = omega (arith, place) in
    let inside : c.index-place.result.now - 2147483648 < length o.rows.items = omega (arith, own_inside o.places.items o.nets.items o.rows.items _ _ c.self.invariant c.args.net in_range no_row taken, at) in
    rw (← c.self.view_is)
    (ap (λ (r : Planes). Some r) (get_or_read o.rows.items (c.index-place.result.now - 2147483648) c.index.result.now inside c.index.ensures no_row ∙ ap (λ (k : ℕ). get_or o.rows.items k no_row) at)
    ∙ sym (own_of_place o.rows.items o.places.items c.args.net taken))
