use Rattle.std.proofs.Common.{ℕ, List, ap, map, subst}
use Rattle.command_words.specs.CommandViews.{shown_order}
use Rattle.desk_commands.specs.FileReadings.{Reading}
use Rattle.desk_commands.specs.CommandStops.{Follows}
use Rattle.desk_commands.proofs.ViewReports.{same_launches}
use Rattle.desk_commands.proofs.commands.loc.report_over.Goals as goal

pub returns-clause-told : goal.returns-clause-told
returns-clause-told g c = λ held e.
    let r = shown_order c.args.order.now in
    let names = map (λ name. name.now) c.as_slice.result.now in
    let same = same_launches held r c.args.parts.now c.as_bytes.result.now c.as_bytes-2.result.now names c.as_bytes.ensures.value c.as_bytes-2.ensures.value (ap (map (λ name. name.now)) c.as_slice.ensures.value) in
    subst (λ (reading : Reading (List ℕ)). Follows c.view_report.result reading) same (c.view_report.ensures.told held e)
