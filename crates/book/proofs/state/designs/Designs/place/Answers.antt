use Rattle.std.proofs.Common.{◌≡◌, ◌≤◌, ◌∙◌, sym, ap, Some, None, true, false, length, arith}
use Rattle.std.specs.List.{position, slice_get}
use Rattle.std.specs.Str.{bytes_eq}
use Rattle.std.specs.Arc.{arc_value}
use Rattle.std.proofs.lemmas.Option.{slice_get_read}
use Rattle.std.proofs.lemmas.Grind.{common_steps}
use Rattle.die_entries.specs.Entries.{arc_values}
use Rattle.book.specs.Places.{DesignsFacts, place_of}
use Rattle.book.proofs.Noted.{arc_there, arc_past, not_noted, noted_past, noted_there}
use Rattle.book.proofs.state.designs.Designs.place.Goals as goal

pub returns-in_err-place-clause-value : goal.returns-in_err-place-clause-value
returns-in_err-place-clause-value c =
    let absent : place_of c.self.inside.places c.args.name.now ≡ None = grind (arith, common_steps) in
    let e : position (λ d. bytes_eq d.name c.args.name.now) (arc_values c.self.inside.list.items) ≡ None = not_noted c.self.inside.places (arc_values c.self.inside.list.items) c.self.invariant.noted c.args.name.now absent in
    c.from_residual.ensures ∙ sym e ∙ ap (λ (v : DesignsFacts). position (λ d. bytes_eq d.name c.args.name.now) v.list) c.self.view_is

pub returns-in_err-design-clause-value : goal.returns-in_err-design-clause-value
returns-in_err-design-clause-value c =
    let place : place_of c.self.inside.places c.args.name.now ≡ Some c.in_ok-place.place = grind (arith, common_steps) in
    let past : length c.self.inside.list.items ≤ c.in_ok-place.place = omega (arith, c.in_err-design.ensures.lookup) in
    let none : slice_get (arc_values c.self.inside.list.items) c.in_ok-place.place ≡ None = arc_past c.self.inside.list.items c.in_ok-place.place past in
    let e : position (λ d. bytes_eq d.name c.args.name.now) (arc_values c.self.inside.list.items) ≡ None = noted_past c.self.inside.places (arc_values c.self.inside.list.items) c.self.invariant.noted c.args.name.now c.in_ok-place.place place none in
    c.from_residual-in_err-design.ensures ∙ sym e ∙ ap (λ (v : DesignsFacts). position (λ d. bytes_eq d.name c.args.name.now) v.list) c.self.view_is

pub returns-then-eq-clause-value : goal.returns-then-eq-clause-value
returns-then-eq-clause-value c =
    let place : place_of c.self.inside.places c.args.name.now ≡ Some c.in_ok-place.place = grind (arith, common_steps) in
    let there : slice_get (arc_values c.self.inside.list.items) c.in_ok-place.place ≡ Some (arc_value c.in_ok-design.design.now) =
    arc_there c.self.inside.list.items c.in_ok-place.place c.in_ok-design.design.now (let h : slice_get c.self.inside.list.items c.in_ok-place.place ≡ Some c.in_ok-design.design.now = grind (arith, common_steps, slice_get_read, c.in_ok-design.ensures.lookup) in h) in
    let test : bytes_eq (arc_value c.in_ok-design.design.now).name c.args.name.now ≡ true =
    let e1 : (arc_value c.in_ok-design.design.now).name ≡ c.name.result.now = cc in
    ap (λ n. bytes_eq n c.args.name.now) e1 ∙ sym c.eq.ensures ∙ c.if-eq.true in
    let e : position (λ d. bytes_eq d.name c.args.name.now) (arc_values c.self.inside.list.items) ≡ Some c.in_ok-place.place = noted_there c.self.inside.places (arc_values c.self.inside.list.items) c.self.invariant.noted c.args.name.now c.in_ok-place.place (arc_value c.in_ok-design.design.now) true place there test in
    sym e ∙ ap (λ (v : DesignsFacts). position (λ d. bytes_eq d.name c.args.name.now) v.list) c.self.view_is

pub returns-else-eq-clause-value : goal.returns-else-eq-clause-value
returns-else-eq-clause-value c =
    let place : place_of c.self.inside.places c.args.name.now ≡ Some c.in_ok-place.place = grind (arith, common_steps) in
    let there : slice_get (arc_values c.self.inside.list.items) c.in_ok-place.place ≡ Some (arc_value c.in_ok-design.design.now) =
    arc_there c.self.inside.list.items c.in_ok-place.place c.in_ok-design.design.now (let h : slice_get c.self.inside.list.items c.in_ok-place.place ≡ Some c.in_ok-design.design.now = grind (arith, common_steps, slice_get_read, c.in_ok-design.ensures.lookup) in h) in
    let test : bytes_eq (arc_value c.in_ok-design.design.now).name c.args.name.now ≡ false =
    let e1 : (arc_value c.in_ok-design.design.now).name ≡ c.name.result.now = cc in
    ap (λ n. bytes_eq n c.args.name.now) e1 ∙ sym c.eq.ensures ∙ c.if-eq.false in
    let e : position (λ d. bytes_eq d.name c.args.name.now) (arc_values c.self.inside.list.items) ≡ None = noted_there c.self.inside.places (arc_values c.self.inside.list.items) c.self.invariant.noted c.args.name.now c.in_ok-place.place (arc_value c.in_ok-design.design.now) false place there test in
    sym e ∙ ap (λ (v : DesignsFacts). position (λ d. bytes_eq d.name c.args.name.now) v.list) c.self.view_is
