use Rattle.std.proofs.Common.{◌≡◌, ◌≤◌, ◌∙◌, sym, ap, subst, true, None, refl, length, arith}
use Rattle.std.specs.List.{position}
use Rattle.book.specs.Dies.{is_die}
use Rattle.book.specs.LegalDeeds.{fits}
use Rattle.book.specs.Kinds.{sign_deed}
use Rattle.book.specs.Deeds.{die_logs}
use Rattle.book.specs.State.{StateFacts}
use Rattle.book.proofs.FoundDie.{no_die}
use Rattle.book.proofs.OfDies.{has_a_log}
use Rattle.book.proofs.Keeping.{IsState-roomy}
use Rattle.book.proofs.Readying.{sign_ready}
use Rattle.book.proofs.state.BookState.ready_sign.Goals as goal

pub sign_room-requires : goal.sign_room-requires
sign_room-requires c = λ (absent : position (is_die c.args.design.now c.args.die.now) c.self.inside.dies ≡ None).
    let fit : fits c.self.inside.deeds.list (sign_deed c.args.by c.args.design.now c.args.die.now c.args.sign).what ≡ true =
    subst (λ (k : StateFacts). fits k.deeds (sign_deed c.args.by c.args.design.now c.args.die.now c.args.sign).what ≡ true) (sym c.self.view_is) c.requires in
    let none = no_die c.self.inside.deeds.list c.self.inside.dies c.args.design.now c.args.die.now (c.self.invariant.each_die c.args.design.now c.args.die.now) absent in
    let some : 1 ≤ length (die_logs c.self.inside.deeds.list c.args.design.now c.args.die.now) = has_a_log c.self.inside.deeds.list c.args.by c.args.design.now c.args.die.now c.args.sign fit in
    omega (arith, some, ap length none.0)

pub invariant_of-self : goal.invariant_of-self
invariant_of-self c =
    IsState-roomy c.self.inside.deeds.list c.sign_room.new.deeds.list c.self.inside.designs.list c.self.inside.dies c.sign_room.new.dies c.sign_room.ensures.deeds c.sign_room.ensures.same c.self.invariant

pub invariant_of-self-2 : goal.invariant_of-self-2
invariant_of-self-2 c =
    IsState-roomy c.self.inside.deeds.list c.sign_room.new.deeds.list c.self.inside.designs.list c.self.inside.dies c.sign_room.new.dies c.sign_room.ensures.deeds c.sign_room.ensures.same c.self.invariant

pub returns-clause-ready : goal.returns-clause-ready
returns-clause-ready c =
    sign_ready c.args.self.now _ c.args.by c.args.design.now c.args.die.now c.args.sign _ c.requires
    (c.sign_room.ensures.deeds ∙ ap (λ (k : StateFacts). k.deeds) c.self.view_is)
    c.in_ok-deed.ensures refl c.in_ok-place.ensures.room c.in_ok-place.ensures.place c.in_ok-place.ensures.sign_room
