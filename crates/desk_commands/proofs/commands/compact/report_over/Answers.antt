use Rattle.std.proofs.Common.{◌∙◌, ℕ, List, ap, map, subst}
use Rattle.chain_compactor.specs.ChannelText.{channel_reading}
use Rattle.diagnosis.proofs.Halting.{comes_after}
use Rattle.command_words.specs.CommandViews.{shown_order}
use Rattle.desk_commands.specs.FileReadings.{Reading, file_reading}
use Rattle.desk_commands.specs.CommandStops.{Follows, halt_of}
use Rattle.desk_commands.specs.Views.{with_compactor}
use Rattle.desk_commands.proofs.ViewReports.{same_compactor}
use Rattle.desk_commands.proofs.commands.compact.report_over.Goals as goal

pub returns-clause-told : goal.returns-clause-told
returns-clause-told g c = λ held e.
    let r = shown_order c.args.order.now in
    let t = c.args.parts.now in
    let compact = c.in_ok-compact.compact in
    let names = map (λ name. name.now) c.as_slice.result.now in
    let same = same_compactor held r t c.as_bytes.result.now c.as_bytes-2.result.now names c.as_bytes.ensures.value c.as_bytes-2.ensures.value (ap (map (λ name. name.now)) c.as_slice.ensures.value) compact in
    comes_after (file_reading held (channel_reading t) r.channels) (with_compactor held r t) halt_of (λ x. x) compact c.view_report.result (c.in_ok-compact.ensures.told held e)
    (subst (λ (reading : Reading (List ℕ)). Follows c.view_report.result reading) same (c.view_report.ensures.told held (c.read_compactor.ensures.same ∙ e)))
