use Rattle.std.proofs.Common.{◌≡◌, ◌≢◌, ◌∷◌, ◌++◌, [], ap, sym, ◌∙◌, is_some, length, not, arith}
use Rattle.std.proofs.lemmas.List.{length-map, map_push}
use Rattle.std.specs.Str.{bytes_eq}
use Rattle.text_parts.specs.Views.{nows}
use Rattle.text_parts.proofs.Places.{found_there, found_nowhere, any_position}
use Rattle.text_parts.proofs.names.Names.add_if_new.Goals as goal

pub invariant_of-self-then-place-next : goal.invariant_of-self-then-place-next
invariant_of-self-then-place-next c =
    let names = nows c.self.inside.list.items in
    let len : length names ≡ c.len-next.result = omega (arith, c.len-next.ensures, ap length c.reserve.ensures.items, length-map c.self.inside.list.items (λ x. x.now)) in
    let places = c.in_ok-place.ensures.kept names c.self.invariant len c.if-place-next.true in
    λ w. rw c.reserve.ensures.items (places w)

pub returns-then-place-next-clause-fresh : goal.returns-then-place-next-clause-fresh
returns-then-place-next-clause-fresh c =
    let names = nows c.self.inside.list.items in
    let len : length names ≡ c.len-next.result = omega (arith, c.len-next.ensures, ap length c.reserve.ensures.items, length-map c.self.inside.list.items (λ x. x.now)) in
    let place = c.in_ok-place.ensures.place names c.self.invariant len in
    let other : c.in_ok-place.place ≢ length names = rw len c.if-place-next.true in
    let there = found_there (bytes_eq c.args.name.now) names c.in_ok-place.place place other in
    rw (← c.self.view_is) (ap not (sym (ap is_some there) ∙ any_position (bytes_eq c.args.name.now) names))

pub invariant_of-self-2 : goal.invariant_of-self-2
invariant_of-self-2 c =
    let names = nows c.self.inside.list.items in
    let items : c.push_reserved.new.self.items ≡ c.self.inside.list.items ++ c.args.name ∷ [] = c.push_reserved.ensures.items ∙ ap (λ xs. xs ++ c.args.name ∷ []) c.reserve.ensures.items in
    let views : nows c.push_reserved.new.self.items ≡ names ++ c.args.name.now ∷ [] = ap nows items ∙ map_push _ _ _ in
    let len : length names ≡ c.len-next.result = omega (arith, c.len-next.ensures, ap length c.reserve.ensures.items, length-map c.self.inside.list.items (λ x. x.now)) in
    let places = c.in_ok-place.ensures.added names c.self.invariant len in
    λ w. rw views (places w)

pub returns-clause-fresh : goal.returns-clause-fresh
returns-clause-fresh c =
    let names = nows c.self.inside.list.items in
    let len : length names ≡ c.len-next.result = omega (arith, c.len-next.ensures, ap length c.reserve.ensures.items, length-map c.self.inside.list.items (λ x. x.now)) in
    let place = c.in_ok-place.ensures.place names c.self.invariant len in
    let nowhere = found_nowhere (bytes_eq c.args.name.now) names c.in_ok-place.place place (c.if-place-next.false ∙ sym len) in
    rw (← c.self.view_is) (ap not (sym (ap is_some nowhere) ∙ any_position (bytes_eq c.args.name.now) names))
