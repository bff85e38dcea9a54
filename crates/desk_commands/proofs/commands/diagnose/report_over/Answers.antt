use Rattle.desk_commands.specs.Designs.{shown_design}
use Rattle.desk_commands.proofs.commands.diagnose.report_over.Goals as goal

pub returns-clause-told : goal.returns-clause-told
returns-clause-told g c = λ held r of_design of_die of_logs e.
    c.report_over_parts-report.ensures.told held r (shown_design c.args.read) c.into_parts-parts.ensures of_design of_die of_logs e
