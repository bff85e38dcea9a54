use Rattle.std.proofs.Common.{◌≡◌, ◌∙◌, ℕ, List, Err, ap, map, rules, subst, sym}
use Rattle.std.proofs.lemmas.Result.{err_from_is_err_and}
use Rattle.scan_model.specs.LogText.{LogFrame}
use Rattle.scan_model.specs.DieReport.{different}
use Rattle.desk_commands.specs.Logs.{AreRead, JoinedTexts, read_logs}
use Rattle.desk_commands.specs.CommandStops.{Follows}
use Rattle.desk_commands.specs.Work.{logs_reading}
use Rattle.desk_commands.proofs.ReadLogs.{no_report, report_follows}
use Rattle.desk_commands.proofs.views.view_report.Goals as goal

pub returns-in_err-add_logs-clause-told : goal.returns-in_err-add_logs-clause-told
returns-in_err-add_logs-clause-told g c = λ held e.
    let is : c.from_residual-in_err-add_logs.result ≡ Err c.in_err-add_logs.field-0.0 = search rules in
    let view = c.args.view.now in
    let names = map (λ name. name.now) c.args.names.now in
    let stop = c.in_err-add_logs.field-0.0 in
    let Stops : JoinedTexts → Type 0 = λ l. Follows {X = List (List ℕ)} (Err stop) (logs_reading held l.frame names) in
    rw is (no_report held (g.V.View.frame view) names (λ texts. g.V.View.report view (read_logs (g.V.View.frame view) (different texts))) stop
    (subst Stops c.in_ok-logs.ensures (c.in_err-add_logs.ensures.stops held e)))

pub returns-in_err-text-clause-told : goal.returns-in_err-text-clause-told
returns-in_err-text-clause-told g c = λ held e.
    let is = err_from_is_err_and c.from_residual-in_err-text.result c.from_residual-in_err-text.ensures.1 in
    rw (is.1, is.2) tt

pub returns-clause-told : goal.returns-clause-told
returns-clause-told g c = λ held e.
    let view = c.args.view.now in
    let frame = g.V.View.frame view in
    let names = map (λ name. name.now) c.args.names.now in
    let read_in = c.add_logs.new.die in
    let same_frame : read_in.frame ≡ frame = c.add_logs.ensures.same_frame ∙ ap (λ (l : JoinedTexts). l.frame) c.in_ok-logs.ensures in
    let Read : JoinedTexts → Type 0 = λ l. AreRead (logs_reading held l.frame names) read_in.texts in
    let read = subst Read c.in_ok-logs.ensures (c.in_ok-add_logs.ensures.read held e) in
    let written = c.in_ok-text.ensures (read_logs read_in.frame read_in.texts) c.joined.ensures.stands (c.count.ensures ∙ sym c.joined.ensures.count) in
    report_follows held frame names (λ texts. g.V.View.report view (read_logs frame (different texts))) read_in.texts c.in_ok-text.field-0 read
    (written ∙ ap (λ (f : LogFrame). g.V.View.report view (read_logs f read_in.texts)) same_frame ∙ ap (λ (texts : List (List ℕ)). g.V.View.report view (read_logs frame texts)) read.are_different)
