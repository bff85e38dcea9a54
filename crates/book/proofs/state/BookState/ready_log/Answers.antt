use Rattle.std.proofs.Common.{◌≡◌, ◌∙◌, sym, ap, subst, true, Some}
use Rattle.std.specs.List.{position}
use Rattle.std.specs.Arc.{arc_value}
use Rattle.book.specs.LegalDeeds.{fits}
use Rattle.book.specs.Kinds.{log_deed}
use Rattle.book.specs.Dies.{is_die}
use Rattle.book.specs.State.{StateFacts, IsState}
use Rattle.scan_model.specs.Words.{is_tag}
use Rattle.book.proofs.OfDies.{design_is_there}
use Rattle.book.proofs.Keeping.{IsState-alike}
use Rattle.book.proofs.Readying.{log_ready}
use Rattle.book.proofs.state.BookState.ready_log.Goals as goal

pub log_room-requires : goal.log_room-requires
log_room-requires c =
    let fit : fits c.self.inside.deeds.list (log_deed c.args.by (arc_value c.args.log.now)).what ≡ true =
    subst (λ (k : StateFacts). fits k.deeds (log_deed c.args.by (arc_value c.args.log.now)).what ≡ true) (sym c.self.view_is) c.requires.fits in
    let there = design_is_there c.self.inside.deeds.list c.args.by (arc_value c.args.log.now) fit in
    ap is_tag (c.design.ensures ∙ ap (λ l. l.design) c.deref-2.ensures) ∙ c.self.invariant.tags (arc_value c.args.log.now).design there.0 there.1

pub invariant_of-self : goal.invariant_of-self
invariant_of-self c =
    subst (λ ds. IsState ds c.self.inside.designs.list c.log_room.new.dies) (sym c.log_room.ensures.deeds)
    (IsState-alike c.self.inside.deeds.list c.self.inside.designs.list c.self.inside.dies c.log_room.new.dies c.log_room.ensures.logs c.log_room.ensures.signs c.self.invariant)

pub invariant_of-self-2 : goal.invariant_of-self-2
invariant_of-self-2 c =
    subst (λ ds. IsState ds c.self.inside.designs.list c.log_room.new.dies) (sym c.log_room.ensures.deeds)
    (IsState-alike c.self.inside.deeds.list c.self.inside.designs.list c.self.inside.dies c.log_room.new.dies c.log_room.ensures.logs c.log_room.ensures.signs c.self.invariant)

pub returns-clause-ready : goal.returns-clause-ready
returns-clause-ready c =
    let log = arc_value c.args.log.now in
    let place : position (is_die log.design log.die) c.log_room.new.dies ≡ Some c.in_ok-place.place =
    subst (λ n. position (is_die n log.die) c.log_room.new.dies ≡ Some c.in_ok-place.place) (c.design.ensures ∙ ap (λ l. l.design) c.deref-2.ensures)
    (subst (λ n. position (is_die c.design.result.now n) c.log_room.new.dies ≡ Some c.in_ok-place.place) (c.die.ensures.value ∙ ap (λ l. l.die) c.deref-3.ensures)
    c.in_ok-place.ensures.place) in
    log_ready c.args.self.now _ c.args.by log _ c.requires.fits c.requires.stands
    (c.log_room.ensures.deeds ∙ ap (λ (k : StateFacts). k.deeds) c.self.view_is)
    (c.in_ok-deed.ensures ∙ ap (log_deed c.args.by) c.deref.ensures) c.in_ok-kept.ensures c.in_ok-place.ensures.room
    place c.in_ok-place.ensures.log_room
