use Rattle.std.proofs.Common.{◌∙◌}
use Rattle.diagnosis.specs.Designs.{texts_of}
use Rattle.diagnosis.proofs.AnyOrder.{one_report}
use Rattle.diagnosis.proofs.case.case_report.Goals as goal

pub returns-clause-any_order : goal.returns-clause-any_order
returns-clause-any_order g c = λ others same.
    let k = c.args.case.now in
    c.in_ok-diagnosis.ensures.report ∙ one_report k.test k.design k.die (texts_of k.logs) others same
