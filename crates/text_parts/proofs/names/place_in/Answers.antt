use Rattle.std.proofs.Common.{◌≡◌, ◌≢◌, unwrap_or, length, arith}
use Rattle.std.specs.List.{position}
use Rattle.std.specs.Str.{bytes_eq}
use Rattle.std.specs.HashMap.Entry.{map_with_value}
use Rattle.text_parts.proofs.Places.{Places-pushed, Places-kept, found_there}
use Rattle.text_parts.proofs.names.place_in.Goals as goal

pub returns-clause-place : goal.returns-clause-place
returns-clause-place c names places len = rw (c.in_ok-places.ensures.value, places c.args.name.now, ← len) at c.or_insert-place.ensures.value

pub returns-clause-kept : goal.returns-clause-kept
returns-clause-kept c names places len other =
    let place = c.or_insert-place.result.now in
    let is : place ≡ unwrap_or (position (bytes_eq c.args.name.now) names) (length names) =
    rw (c.in_ok-places.ensures.value, places c.args.name.now, ← len) at c.or_insert-place.ensures.value in
    let past : place ≢ length names = rw len other in
    let there = found_there (bytes_eq c.args.name.now) names place is past in
    let e = c.in_ok-places.field-0 in
    let kept = Places-kept names c.args.name.now c.args.places.now (map_with_value e place) place places there (c.in_ok-places.ensures.update.0 place) in
    λ w. grind (arith, kept w)

pub returns-clause-added : goal.returns-clause-added
returns-clause-added c names places len =
    let place = c.or_insert-place.result.now in
    let is : place ≡ unwrap_or (position (bytes_eq c.args.name.now) names) (length names) =
    rw (c.in_ok-places.ensures.value, places c.args.name.now, ← len) at c.or_insert-place.ensures.value in
    let e = c.in_ok-places.field-0 in
    let pushed = Places-pushed names c.args.name.now c.args.places.now (map_with_value e place) places (rw (← is) (c.in_ok-places.ensures.update.0 place)) in
    λ w. grind (arith, pushed w)
