use Rattle.std.proofs.Common.{◌<◌, ◌≤◌, length, rules}
use Rattle.std.specs.Arc.{arc_value}
use Rattle.die_entries.proofs.Revisions.{showable_at}
use Rattle.die_entries.proofs.ahead.view_up_to.Goals as goal

pub view_of-requires-clause-logs : goal.view_of-requires-clause-logs
view_of-requires-clause-logs c =
    let low : 0 < c.args.revision = search rules in
    let high : c.args.revision ≤ length c.args.logs.now = search rules in
    (showable_at (arc_value c.args.design.now) c.args.die.now c.args.logs.now c.logs_at.result.now c.args.revision c.logs_at.ensures c.requires low high).each

pub view_of-requires-clause-differ : goal.view_of-requires-clause-differ
view_of-requires-clause-differ c =
    let low : 0 < c.args.revision = search rules in
    let high : c.args.revision ≤ length c.args.logs.now = search rules in
    (showable_at (arc_value c.args.design.now) c.args.die.now c.args.logs.now c.logs_at.result.now c.args.revision c.logs_at.ensures c.requires low high).differ
