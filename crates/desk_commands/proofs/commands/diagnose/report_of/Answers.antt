use Rattle.std.proofs.Common.{◌≡◌, ◌∙◌, Err, ap, map, rules}
use Rattle.desk_commands.specs.Designs.{shown_design}
use Rattle.command_words.specs.CommandViews.{shown_order}
use Rattle.desk_commands.specs.Work.{design_reading, with_design}
use Rattle.desk_commands.specs.CommandStops.{halt_of}
use Rattle.diagnosis.proofs.Halting.{at_halt, comes_after}
use Rattle.desk_commands.proofs.commands.diagnose.report_of.Goals as goal

pub returns-in_err-read-clause-told : goal.returns-in_err-read-clause-told
returns-in_err-read-clause-told g c = λ held e.
    let is : c.from_residual.result ≡ Err c.in_err-read.field-0.0 = search rules in
    let r = shown_order c.args.order.now in
    rw is (at_halt (design_reading held r.files) (with_design held r) (halt_of c.in_err-read.field-0.0) (c.in_err-read.ensures.told held e))

pub returns-clause-told : goal.returns-clause-told
returns-clause-told g c = λ held e.
    let r = shown_order c.args.order.now in
    comes_after (design_reading held r.files) (with_design held r) halt_of (λ x. x) (shown_design c.in_ok-read.read) c.report_over.result
    (c.in_ok-read.ensures.told held e)
    (c.report_over.ensures.told held r c.as_bytes-design.ensures.value c.as_bytes-die.ensures.value (ap (map (λ name. name.now)) c.as_slice-names.ensures.value) (c.read_design.ensures.same ∙ e))
