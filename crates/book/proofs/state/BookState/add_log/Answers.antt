use Rattle.std.proofs.Common.{◌<◌, sym, subst}
use Rattle.book.specs.State.{StateFacts}
use Rattle.book.specs.ReadyChanges.{IsReadyLog}
use Rattle.book.proofs.Readying.{log_within, log_added}
use Rattle.book.proofs.state.BookState.add_log.Goals as goal

pub add-requires : goal.add-requires
add-requires c = subst (λ (k : StateFacts). 0 < k.room) (sym c.self.view_is) c.requires.room

pub add_log-requires-clause-within : goal.add_log-requires-clause-within
add_log-requires-clause-within c =
    log_within _ c.args.ready (subst (λ (k : StateFacts). IsReadyLog k c.args.ready) (sym c.self.view_is) c.requires)

pub add_log-requires-clause-room : goal.add_log-requires-clause-room
add_log-requires-clause-room c =
    let is = subst (λ (k : StateFacts). IsReadyLog k c.args.ready) (sym c.self.view_is) c.requires in
    is.log_room

pub invariant_of-self : goal.invariant_of-self
invariant_of-self c =
    log_added _ c.args.ready (subst (λ (k : StateFacts). IsReadyLog k c.args.ready) (sym c.self.view_is) c.requires) c.self.invariant
    c.add.new.self.list c.add_log.new.self c.add.ensures c.add_log.ensures
