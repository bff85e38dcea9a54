use Rattle.std.proofs.Common.{◌∙◌, ℕ, List, Ok, Err, map, ap, subst}
use Rattle.std.proofs.lemmas.Result.{err_from_is_err_and}
use Rattle.scan_model.specs.LogText.{log_frame}
use Rattle.scan_model.specs.DieReport.{die_report}
use Rattle.diagnosis.specs.Designs.{texts_of}
use Rattle.diagnosis.specs.Cases.{case_report}
use Rattle.desk_commands.specs.FileReadings.{Reading}
use Rattle.desk_commands.specs.CommandStops.{Follows}
use Rattle.desk_commands.proofs.ReadLogs.{no_report, report_follows}
use Rattle.desk_commands.proofs.CaseLogs.{report_is, same_reading}
use Rattle.desk_commands.proofs.commands.diagnose.report_of_case.Goals as goal

pub returns-in_err-add_logs-clause-told : goal.returns-in_err-add_logs-clause-told
returns-in_err-add_logs-clause-told g c = λ held r d test design die logs e.
    let k = c.args.case.now in
    let names = map (λ name. name.now) c.args.names.now in
    let stop = c.in_err-add_logs.field-0.0 in
    let is = err_from_is_err_and c.from_residual.result c.from_residual.ensures.1 in
    rw (is.1, is.2) (subst (λ (reading : Reading (List ℕ)). Follows {X = List ℕ} (Err stop) reading) (same_reading held r d k names test design die logs)
    (no_report held (log_frame k.test k.design k.die) names (die_report k.test k.design k.die) stop (c.in_err-add_logs.ensures.stops held e)))

pub returns-clause-told : goal.returns-clause-told
returns-clause-told g c = λ held r d test design die logs e.
    let k = c.args.case.now in
    let names = map (λ name. name.now) c.args.names.now in
    let new = c.add_logs.new.die in
    let read = c.in_ok-add_logs.ensures.read held e in
    let same = c.logs.ensures ∙ c.take_simulation.ensures.same in
    let written = c.into_text.ensures ∙ c.in_ok-report.ensures.report ∙ ap case_report same ∙ report_is k new read.all c.add_logs.ensures.kept read.are_different in
    subst (λ (reading : Reading (List ℕ)). Follows (Ok c.into_text.result) reading) (same_reading held r d k names test design die logs)
    (report_follows held (log_frame k.test k.design k.die) names (die_report k.test k.design k.die) (texts_of new.logs) c.into_text.result read written)
