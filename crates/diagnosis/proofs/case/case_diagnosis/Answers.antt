use Rattle.std.proofs.Common.{◌≡◌, ◌∙◌, ap}
use Rattle.std.proofs.lemmas.Result.{IfOk-weaker}
use Rattle.scan_model.specs.MatchCounts.{candidates}
use Rattle.scan_model.specs.Ranking.{ranked}
use Rattle.scan_model.specs.ReportText.{concatenated}
use Rattle.diagnosis.specs.declared.diagnosed.Diagnosis.{Diagnosis}
use Rattle.diagnosis.specs.Designs.{facts_of}
use Rattle.diagnosis.specs.Cases.{CaseFacts, case_lines, case_report}
use Rattle.diagnosis.specs.Subjects.{subject_case}
use Rattle.diagnosis.proofs.case.case_diagnosis.Goals as goal

pub returns-clause-lines : goal.returns-clause-lines
returns-clause-lines g c =
    IfOk-weaker c.diagnosis_of.result (λ (made : Diagnosis). made.report ≡ case_lines (subject_case c.subject.result)) (λ (made : Diagnosis). made.report ≡ case_lines c.args.case.now)
    (λ made e. e ∙ ap case_lines c.subject.ensures.case) c.diagnosis_of.ensures.lines

pub returns-clause-report : goal.returns-clause-report
returns-clause-report g c =
    IfOk-weaker c.diagnosis_of.result (λ (made : Diagnosis). made.report ≡ case_lines c.args.case.now) (λ (made : Diagnosis). concatenated made.report ≡ case_report c.args.case.now)
    (λ made e. ap concatenated e) (returns-clause-lines g c)

pub returns-clause-candidates : goal.returns-clause-candidates
returns-clause-candidates g c =
    let k = subject_case c.subject.result in
    IfOk-weaker c.diagnosis_of.result (λ (made : Diagnosis). made.candidates ≡ ranked (candidates k.test (facts_of k.logs)))
    (λ (made : Diagnosis). made.candidates ≡ ranked (candidates c.args.case.now.test (facts_of c.args.case.now.logs)))
    (λ made e. e ∙ ap (λ (k : CaseFacts). ranked (candidates k.test (facts_of k.logs))) c.subject.ensures.case) c.diagnosis_of.ensures.candidates
