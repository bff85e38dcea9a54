use Rattle.std.proofs.Common.{[], ◌∷◌, ◌++◌, sym, subst, ◌∙◌}
use Rattle.scan_model.specs.Coverage.{FitsLog}
use Rattle.scan_model.proofs.BitTables.{written_whole}
use Rattle.log_join.specs.Joining.{JoinedBits, StandsFor}
use Rattle.log_join.proofs.Joins.{stands_for_more}
use Rattle.log_join.proofs.AnyOrder.{stands_for_same_logs}
use Rattle.log_join.proofs.joined.Joined.add.Goals as goal

pub returns-clause-joined : goal.returns-clause-joined
returns-clause-joined c = λ logs stands.
    let inside = c.self.inside in
    let facts = c.args.facts.now in
    let failed = written_whole c.join.new.failed inside.failed.items inside.failed.len (c.join.auto.failed ∙ c.deref_mut.ensures.len) in
    let passed = written_whole c.join.new.passed inside.passed.items inside.passed.len (c.join.auto.passed ∙ c.deref_mut-2.ensures.len) in
    rw (failed, passed) (stands_for_more logs facts c.take.new.self inside.patterns inside.points inside.failed.items inside.passed.items c.join.new.failed c.join.new.passed
    (subst (λ (joined : JoinedBits). FitsLog joined.patterns joined.points facts) (sym c.self.view_is) c.requires)
    (rw c.deref_mut.ensures.value at c.join.ensures.failed) (rw c.deref_mut-2.ensures.value at c.join.ensures.passed) c.take.ensures.covered
    (subst (StandsFor logs) (sym c.self.view_is) stands))

pub returns-clause-any_order : goal.returns-clause-any_order
returns-clause-any_order c = λ logs others stands same. stands_for_same_logs (logs ++ c.args.facts.now ∷ []) others _ same (returns-clause-joined c logs stands)
