use Rattle.std.proofs.Common.{◌≡◌, ◌∙◌, sym, ap, subst, true}
use Rattle.std.specs.Arc.{arc_value}
use Rattle.book.specs.LegalDeeds.{fits}
use Rattle.book.specs.Kinds.{design_deed}
use Rattle.book.specs.State.{StateFacts}
use Rattle.book.proofs.NewName.{name_is_new}
use Rattle.book.proofs.Readying.{design_ready}
use Rattle.book.proofs.state.BookState.ready_design.Goals as goal

pub ready-requires : goal.ready-requires
ready-requires c =
    let fit : fits c.self.inside.deeds.list (design_deed c.args.by (arc_value c.args.design.now)).what ≡ true =
    subst (λ (k : StateFacts). fits k.deeds (design_deed c.args.by (arc_value c.args.design.now)).what ≡ true) (sym c.self.view_is) c.requires.fits in
    name_is_new c.self.inside.deeds.list c.args.by (arc_value c.args.design.now) fit c.self.inside.designs.list c.self.invariant.designs

pub returns-clause-ready : goal.returns-clause-ready
returns-clause-ready c =
    design_ready c.args.self.now _ c.args.by (arc_value c.args.design.now) _ c.requires.fits
    (c.reserve.ensures.list ∙ ap (λ (k : StateFacts). k.deeds) c.self.view_is)
    (c.in_ok-deed.ensures ∙ ap (design_deed c.args.by) c.deref.ensures) c.in_ok-design.ensures.same c.in_ok-reserve.ensures.room c.in_ok-design.ensures.next
