use Rattle.std.proofs.Common.{◌∙◌, ap}
use Rattle.diagnosis.specs.Cases.{CaseFacts}
use Rattle.desk_commands.proofs.commands.diagnose.report_over_parts.Goals as goal

pub returns-clause-told : goal.returns-clause-told
returns-clause-told g c = λ held r d of_test of_design of_die of_logs e.
    let test = ap (λ (k : CaseFacts). k.test) c.in_ok-case.ensures ∙ of_test in
    let design = ap (λ (k : CaseFacts). k.design) c.in_ok-case.ensures ∙ of_design in
    let die = ap (λ (k : CaseFacts). k.die) c.in_ok-case.ensures ∙ of_die in
    c.report_of_case-report.ensures.told held r d test design die of_logs e
