use Rattle.std.proofs.Common.{◌≡◌, List, sym, subst}
use Rattle.std.specs.Arc.{arc_value}
use Rattle.diagnosis.specs.Designs.{DesignFacts, ReadLogFacts, ViewFacts}
use Rattle.die_entries.specs.Entries.{arc_values}
use Rattle.book.specs.RowsAhead.{IsDesignIn}
use Rattle.book.proofs.Showing.{some_is}
use Rattle.book.proofs.RowSigns.{is_kept, kept_showable}
use Rattle.book.proofs.DesignsAhead.{found_in, where_some}
use Rattle.book.proofs.ahead.views.known_view.Goals as goal

pub returns-in_default-2 : goal.returns-in_default-2
returns-in_default-2 c =
    let deeds = c.args.kept.now.deeds in
    let d : DesignFacts = arc_value c.in-Some.found.design.now in
    let there : IsDesignIn deeds d = found_in deeds c.deref.result.now d c.args.signed.now.design.now c.in-Some.found.number c.deref.ensures c.name.ensures.design (some_is _ _ _ c.in-Some.is c.design.ensures.some) in
    where_some c.bare_view.result (λ (view : ViewFacts). view.design ≡ d) (λ (view : ViewFacts). IsDesignIn deeds view.design) (λ view is. subst (IsDesignIn deeds) (sym is) there) c.bare_view.ensures

pub view_up_to-requires : goal.view_up_to-requires
view_up_to-requires c =
    let deeds = c.args.kept.now.deeds in
    let d : DesignFacts = arc_value c.in-Some.found.design.now in
    let logs : List ReadLogFacts = arc_values c.logs.result.now in
    let kept = is_kept deeds c.deref.result.now d c.in-Some.found.number c.name.result.now c.args.signed.now.design.now c.args.signed.now.die.now logs c.in-Some-2.known.now.logs c.signs.result.now c.in-Some-2.known.now.signs
    c.deeds-deeds.ensures.fit c.deref.ensures c.name.ensures.design c.name.ensures.value (some_is _ _ _ c.in-Some.is c.design.ensures.some) (some_is _ _ _ c.in-Some-2.is c.in_ok-known.ensures.some) c.logs.ensures c.signs.ensures in
    kept_showable deeds d c.args.signed.now.die.now logs c.signs.result.now kept

pub returns : goal.returns
returns c =
    let deeds = c.args.kept.now.deeds in
    let d : DesignFacts = arc_value c.in-Some.found.design.now in
    let there : IsDesignIn deeds d = found_in deeds c.deref.result.now d c.args.signed.now.design.now c.in-Some.found.number c.deref.ensures c.name.ensures.design (some_is _ _ _ c.in-Some.is c.design.ensures.some) in
    subst (IsDesignIn deeds) (sym c.in_ok-view.ensures) there
