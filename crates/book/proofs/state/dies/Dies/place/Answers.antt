use Rattle.std.proofs.Common.{◌≡◌, ◌≤◌, ◌∙◌, sym, ap, subst, Some, None, true, false, length, arith}
use Rattle.std.specs.Prelude.{slice_get}
use Rattle.std.specs.List.{position}
use Rattle.std.proofs.lemmas.Option.{slice_get_past, slice_get_read}
use Rattle.std.proofs.lemmas.Grind.{common_steps}
use Rattle.book.specs.Places.{place_of}
use Rattle.book.specs.Dies.{die_key, is_die}
use Rattle.book.proofs.FirstPlace.{first_none, first_past, first_there}
use Rattle.book.proofs.NotedDies.{noted_die}
use Rattle.book.proofs.state.dies.Dies.place.Goals as goal

pub returns-in_err-place : goal.returns-in_err-place
returns-in_err-place c =
    let absent : place_of c.self.inside.places c.args.key.now ≡ None = grind (arith, common_steps) in
    let first = noted_die c.self.inside.places c.self.inside.list.items c.self.invariant c.args.design.now c.args.die.now in
    let e : position (is_die c.args.design.now c.args.die.now) c.self.inside.list.items ≡ None =
    first_none (is_die c.args.design.now c.args.die.now) c.self.inside.list.items (place_of c.self.inside.places (die_key c.args.design.now c.args.die.now)) first
    (subst (λ key. place_of c.self.inside.places key ≡ None) c.requires absent) in
    c.from_residual.ensures ∙ sym e ∙ ap (position (is_die c.args.design.now c.args.die.now)) c.self.view_is

pub returns-in_err-kept : goal.returns-in_err-kept
returns-in_err-kept c =
    let place : place_of c.self.inside.places c.args.key.now ≡ Some c.in_ok-place.place = grind (arith, common_steps) in
    let first = noted_die c.self.inside.places c.self.inside.list.items c.self.invariant c.args.design.now c.args.die.now in
    let past : length c.self.inside.list.items ≤ c.in_ok-place.place = omega (arith, c.in_err-kept.ensures.lookup) in
    let e : position (is_die c.args.design.now c.args.die.now) c.self.inside.list.items ≡ None =
    first_past (is_die c.args.design.now c.args.die.now) c.self.inside.list.items (place_of c.self.inside.places (die_key c.args.design.now c.args.die.now)) first
    c.in_ok-place.place (subst (λ key. place_of c.self.inside.places key ≡ Some c.in_ok-place.place) c.requires place) (slice_get_past c.self.inside.list.items c.in_ok-place.place past) in
    c.from_residual-in_err-kept.ensures ∙ sym e ∙ ap (position (is_die c.args.design.now c.args.die.now)) c.self.view_is

pub returns-then-is : goal.returns-then-is
returns-then-is c =
    let place : place_of c.self.inside.places c.args.key.now ≡ Some c.in_ok-place.place = grind (arith, common_steps) in
    let first = noted_die c.self.inside.places c.self.inside.list.items c.self.invariant c.args.design.now c.args.die.now in
    let there : slice_get c.self.inside.list.items c.in_ok-place.place ≡ Some c.in_ok-kept.kept.now = grind (arith, common_steps, slice_get_read, c.in_ok-kept.ensures.lookup) in
    let e : position (is_die c.args.design.now c.args.die.now) c.self.inside.list.items ≡ Some c.in_ok-place.place =
    first_there (is_die c.args.design.now c.args.die.now) c.self.inside.list.items (place_of c.self.inside.places (die_key c.args.design.now c.args.die.now)) first
    c.in_ok-place.place c.in_ok-kept.kept.now true (subst (λ key. place_of c.self.inside.places key ≡ Some c.in_ok-place.place) c.requires place) there (sym c.is.ensures ∙ c.if-is.true) in
    sym e ∙ ap (position (is_die c.args.design.now c.args.die.now)) c.self.view_is

pub returns-else-is : goal.returns-else-is
returns-else-is c =
    let place : place_of c.self.inside.places c.args.key.now ≡ Some c.in_ok-place.place = grind (arith, common_steps) in
    let first = noted_die c.self.inside.places c.self.inside.list.items c.self.invariant c.args.design.now c.args.die.now in
    let there : slice_get c.self.inside.list.items c.in_ok-place.place ≡ Some c.in_ok-kept.kept.now = grind (arith, common_steps, slice_get_read, c.in_ok-kept.ensures.lookup) in
    let e : position (is_die c.args.design.now c.args.die.now) c.self.inside.list.items ≡ None =
    first_there (is_die c.args.design.now c.args.die.now) c.self.inside.list.items (place_of c.self.inside.places (die_key c.args.design.now c.args.die.now)) first
    c.in_ok-place.place c.in_ok-kept.kept.now false (subst (λ key. place_of c.self.inside.places key ≡ Some c.in_ok-place.place) c.requires place) there (sym c.is.ensures ∙ c.if-is.false) in
    sym e ∙ ap (position (is_die c.args.design.now c.args.die.now)) c.self.view_is
