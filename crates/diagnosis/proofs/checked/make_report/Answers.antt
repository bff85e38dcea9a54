use Rattle.std.proofs.Common.{◌∙◌}
use Rattle.diagnosis.specs.Designs.{texts_of}
use Rattle.diagnosis.proofs.AnyOrder.{one_report}
use Rattle.diagnosis.proofs.checked.make_report.Goals as goal

pub returns-clause-any_order : goal.returns-clause-any_order
returns-clause-any_order g c = λ others same.
    let v = c.args.view.now in
    c.in_ok-diagnosis.ensures.report ∙ one_report v.design.test v.design.name v.die (texts_of v.logs) others same
