use Rattle.std.proofs.Common.{◌∙◌, ap}
use Rattle.scan_model.specs.ReportText.{concatenated}
use Rattle.diagnosis.specs.Designs.{texts_of}
use Rattle.diagnosis.specs.Cases.{case_lines}
use Rattle.diagnosis.proofs.AnyOrder.{one_report}
use Rattle.diagnosis.proofs.case_logs.report_of_logs.Goals as goal

pub returns-clause-lines : goal.returns-clause-lines
returns-clause-lines g c = c.in_ok-diagnosis.ensures.lines ∙ ap case_lines c.subject.ensures.case

pub returns-clause-report : goal.returns-clause-report
returns-clause-report g c = ap concatenated (returns-clause-lines g c)

pub returns-clause-any_order : goal.returns-clause-any_order
returns-clause-any_order g c = λ others same.
    let k = c.args.case.now in
    returns-clause-report g c ∙ one_report k.test k.design k.die (texts_of k.logs) others same
