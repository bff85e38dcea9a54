use Rattle.std.proofs.Common.{◌<◌, sym, subst}
use Rattle.book.specs.State.{StateFacts}
use Rattle.book.specs.ReadyChanges.{IsReadySign}
use Rattle.book.proofs.Readying.{sign_within, sign_added}
use Rattle.book.proofs.state.BookState.add_sign.Goals as goal

pub add-requires : goal.add-requires
add-requires c = subst (λ (k : StateFacts). 0 < k.room) (sym c.self.view_is) c.requires.room

pub add_sign-requires-clause-within : goal.add_sign-requires-clause-within
add_sign-requires-clause-within c =
    sign_within _ c.args.ready (subst (λ (k : StateFacts). IsReadySign k c.args.ready) (sym c.self.view_is) c.requires)

pub add_sign-requires-clause-room : goal.add_sign-requires-clause-room
add_sign-requires-clause-room c =
    let is = subst (λ (k : StateFacts). IsReadySign k c.args.ready) (sym c.self.view_is) c.requires in
    is.sign_room

pub invariant_of-self : goal.invariant_of-self
invariant_of-self c =
    sign_added _ c.args.ready (subst (λ (k : StateFacts). IsReadySign k c.args.ready) (sym c.self.view_is) c.requires) c.self.invariant
    c.add.new.self.list c.add_sign.new.self c.add.ensures c.add_sign.ensures
