use Rattle.std.proofs.Common.{◌≡◌, ◌<◌, sym, ap, subst, Some, length, arith}
use Rattle.std.specs.Prelude.{slice_get, slice_set}
use Rattle.book.specs.Dies.{DieFacts, AreSameDies}
use Rattle.book.proofs.NotedDies.{AreNotedDies-set, lent_at, set_here}
use Rattle.book.proofs.SameDies.{same_dies}
use Rattle.book.proofs.Spoiling.{on_ok_then}
use Rattle.book.proofs.state.dies.Dies.reserve_log.Goals as goal

pub invariant_of-self : goal.invariant_of-self
invariant_of-self c =
    let within : c.args.place < length c.self.inside.list.items = omega (arith, ap length c.self.view_is) in
    AreNotedDies-set c.self.inside.places c.self.inside.list.items c.args.place c.index_mut.result.now c.reserve_log.new.self c.self.invariant
    (lent_at c.self.inside.list.items c.args.place c.index_mut.result.now c.index_mut.ensures.value within)
    c.reserve_log.ensures.same.design c.reserve_log.ensures.same.die

pub returns-clause-same : goal.returns-clause-same
returns-clause-same c =
    let within : c.args.place < length c.self.inside.list.items = omega (arith, ap length c.self.view_is) in
    subst (λ ds. AreSameDies ds (slice_set c.self.inside.list.items c.args.place c.reserve_log.new.self)) c.self.view_is
    (same_dies c.self.inside.list.items c.args.place c.index_mut.result.now c.reserve_log.new.self
    (lent_at c.self.inside.list.items c.args.place c.index_mut.result.now c.index_mut.ensures.value within) c.reserve_log.ensures.same)

pub returns-clause-room : goal.returns-clause-room
returns-clause-room c =
    on_ok_then c.reserve_log.result _ _ c.reserve_log.ensures.room
    (λ room k at. subst (λ (m : DieFacts). 0 < m.log_room) (set_here c.self.inside.list.items c.args.place c.reserve_log.new.self k at) room)
