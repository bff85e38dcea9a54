use Rattle.std.proofs.Common.{◌≡◌, ◌∙◌, Err, rules, subst}
use Rattle.scan_model.specs.ScanTest.{ScanTest}
use Rattle.diagnosis.proofs.Halting.{at_halt, comes_after}
use Rattle.command_words.specs.CommandViews.{shown_order}
use Rattle.desk_commands.specs.Designs.{shown_design}
use Rattle.desk_commands.specs.CommandStops.{Follows, halt_of}
use Rattle.desk_commands.specs.Views.{with_channels}
use Rattle.desk_commands.specs.Work.{design_reading}
use Rattle.desk_commands.proofs.commands.compact.compact_report_of.Goals as goal

pub returns-in_err-read-clause-told : goal.returns-in_err-read-clause-told
returns-in_err-read-clause-told g c = λ held e.
    let is : c.from_residual.result ≡ Err c.in_err-read.field-0.0 = search rules in
    let r = shown_order c.args.order.now in
    rw is (at_halt (design_reading held r.files) (λ d. with_channels held r d.test) (halt_of c.in_err-read.field-0.0) (c.in_err-read.ensures.told held e))

pub returns-clause-told : goal.returns-clause-told
returns-clause-told g c = λ held e.
    let r = shown_order c.args.order.now in
    let over = subst (λ (t : ScanTest). Follows c.report_over-report.result (with_channels held r t)) c.into_parts-parts.ensures (c.report_over-report.ensures.told held (c.read_design.ensures.same ∙ e)) in
    comes_after (design_reading held r.files) (λ d. with_channels held r d.test) halt_of (λ x. x) (shown_design c.in_ok-read.read) c.report_over-report.result (c.in_ok-read.ensures.told held e) over
