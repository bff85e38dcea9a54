use Rattle.std.proofs.Common.{sym, subst, rules}
use Rattle.std.specs.Arc.{arc_value}
use Rattle.diagnosis.specs.Designs.{ViewFacts, IsLogOf}
use Rattle.die_entries.proofs.MoreLogs.{is_log_at, view_more}
use Rattle.die_entries.proofs.views.view_of.Goals as goal

pub add-requires : goal.add-requires
add-requires c =
    subst (λ (v : ViewFacts). IsLogOf v.design v.die (arc_value c.in_ok-try_clone.field-0)) (sym c.loop-log.invariant)
    (is_log_at (arc_value c.args.design.now) c.args.die.now c.args.logs.now c.loop-log.log-index c.log-item.result c.in_ok-try_clone.field-0 c.requires.logs c.loop-log-test.true c.log-item.is (search rules))

pub loop-log-preserved : goal.loop-log-preserved
loop-log-preserved c =
    view_more (arc_value c.args.design.now) c.args.die.now c.args.logs.now c.loop-log.log-index c.log-item.result c.in_ok-try_clone.field-0 c.loop-log.view c.add.new.self c.in_ok-add.field-0
    c.requires.differ c.loop-log-test.true c.log-item.is (search rules) c.loop-log.invariant c.in_ok-add.ensures.added
