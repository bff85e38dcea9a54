use Rattle.std.proofs.Common.{◌≡◌, ◌∙◌, Err, rules}
use Rattle.diagnosis.proofs.Halting.{at_halt, comes_after}
use Rattle.command_words.specs.CommandViews.{shown_order}
use Rattle.desk_commands.specs.CommandStops.{halt_of}
use Rattle.desk_commands.specs.Views.{launch_reading, with_launches}
use Rattle.desk_commands.proofs.commands.loc.transition_report_of.Goals as goal

pub returns-in_err-parts-clause-told : goal.returns-in_err-parts-clause-told
returns-in_err-parts-clause-told g c = λ held e.
    let is : c.from_residual.result ≡ Err c.in_err-parts.field-0.0 = search rules in
    let r = shown_order c.args.order.now in
    rw is (at_halt (launch_reading held r.files) (with_launches held r) (halt_of c.in_err-parts.field-0.0) (c.in_err-parts.ensures.told held e))

pub returns-clause-told : goal.returns-clause-told
returns-clause-told g c = λ held e.
    let r = shown_order c.args.order.now in
    comes_after (launch_reading held r.files) (with_launches held r) halt_of (λ x. x) c.in_ok-parts.parts c.report_over-report.result (c.in_ok-parts.ensures.told held e)
    (c.report_over-report.ensures.told held (c.read_launch_design.ensures.same ∙ e))
