use Rattle.std.proofs.Common.{◌<◌, ◌≤◌, length, ap, ◌∙◌, rules}
use Rattle.std.specs.Arc.{arc_value}
use Rattle.sha2.specs.Sha256.{sha256}
use Rattle.die_entries.specs.Entries.{arc_values}
use Rattle.die_entries.specs.Revisions.{revision_report}
use Rattle.die_entries.proofs.Revisions.{showable_at, report_of_part}
use Rattle.die_entries.proofs.digests.digest_at.Goals as goal

pub returns-in-Some-clause-right : goal.returns-in-Some-clause-right
returns-in-Some-clause-right g c = c.in-Some.ensures (revision_report (arc_value c.args.design.now) c.args.die.now (arc_values c.args.logs.now)) c.requires.signed

pub digest_of-requires-clause-showable : goal.digest_of-requires-clause-showable
digest_of-requires-clause-showable g c κs within =
    let low : 0 < c.args.revision = search rules in
    let high : c.args.revision ≤ length c.args.logs.now = search rules in
    showable_at (arc_value c.args.design.now) c.args.die.now c.args.logs.now c.logs_at.result.now c.args.revision c.logs_at.ensures c.requires.showable low high

pub returns-clause-right : goal.returns-clause-right
returns-clause-right g c =
    c.in_ok-right.ensures ∙ ap sha256 (report_of_part (arc_value c.args.design.now) c.args.die.now c.args.logs.now c.logs_at.result.now c.args.revision c.logs_at.ensures)
