use Rattle.std.proofs.Common.{◌≡◌, ◌+◌, sym, subst, Some, None}
use Rattle.std.specs.List.{position}
use Rattle.std.specs.Str.{bytes_eq}
use Rattle.std.specs.Arc.{arc_value}
use Rattle.book.specs.Deeds.{design_text}
use Rattle.book.specs.Lookups.{IsFound}
use Rattle.book.proofs.NumberedDesign.{found_design, found_none}
use Rattle.book.specs.State.{StateFacts}
use Rattle.book.proofs.state.BookState.design.Goals as goal

pub returns-in_err-place-clause-none : goal.returns-in_err-place-clause-none
returns-in_err-place-clause-none c =
    let absent : position (λ e. bytes_eq e.name c.args.name.now) c.self.inside.designs.list ≡ None = sym c.in_err-place.ensures.value in
    let none : design_text c.args.self.now.deeds c.args.name.now ≡ None =
    subst (λ (k : StateFacts). design_text k.deeds c.args.name.now ≡ None) c.self.view_is (found_none c.self.inside.deeds.list c.self.inside.designs.list c.args.name.now c.self.invariant.designs absent) in
    rw c.from_residual.ensures none

pub returns-clause-some : goal.returns-clause-some
returns-clause-some c =
    let place : position (λ e. bytes_eq e.name c.args.name.now) c.self.inside.designs.list ≡ Some c.in_ok-place.place = sym c.in_ok-place.ensures.value in
    subst (λ (k : StateFacts). IsFound k.deeds c.args.name.now (c.in_ok-place.place + 1) (arc_value c.at.result.now)) c.self.view_is
    (found_design c.self.inside.deeds.list c.self.inside.designs.list c.args.name.now c.self.invariant.designs c.in_ok-place.place (arc_value c.at.result.now) place c.at.ensures)
