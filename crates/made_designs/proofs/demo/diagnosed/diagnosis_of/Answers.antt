use Rattle.std.proofs.Common.{◌≡◌, [], ◌∷◌, ◌∙◌}
use Rattle.std.proofs.lemmas.Result.{IfOk-weaker}
use Rattle.scan_model.specs.MatchCounts.{candidates}
use Rattle.scan_model.specs.Ranking.{ranked}
use Rattle.scan_model.specs.ReportText.{concatenated}
use Rattle.diag_report.specs.PredictedLog.{fault_of}
use Rattle.diagnosis.specs.declared.diagnosed.Diagnosis.{Diagnosis}
use Rattle.diagnosis.specs.Designs.{facts_of}
use Rattle.diagnosis.specs.Cases.{case_report}
use Rattle.made_designs.specs.Demo.{own_candidates, own_report}
use Rattle.made_designs.specs.InjectedFaults.{demo_case}
use Rattle.made_designs.proofs.DemoView.{is_log_of_case, with_one, report_is, candidates_are}
use Rattle.made_designs.proofs.demo.diagnosed.diagnosis_of.Goals as goal

pub add_log-requires : goal.add_log-requires
add_log-requires g c =
    let k = c.args.case.now in
    is_log_of_case k.test c.args.injected.place c.args.injected.log c.requires.found.own k c.requires.case.is

pub returns-clause-report : goal.returns-clause-report
returns-clause-report g c =
    let t = c.args.case.now.test in
    let log = c.args.injected.log in
    let k = c.add_log.new.self in
    let one : k ≡ demo_case t (log ∷ []) = with_one t c.in_ok-add_log.field-0 log c.args.case.now k c.requires.case.is c.in_ok-add_log.ensures.added c.in_ok-add_log.ensures.kept in
    let is = report_is t c.args.injected.place log c.requires.found.own k one in
    IfOk-weaker c.case_diagnosis.result (λ (x : Diagnosis). concatenated x.report ≡ case_report k) (λ (x : Diagnosis). concatenated x.report ≡ own_report t (fault_of t c.args.injected.place))
    (λ x e. e ∙ is) c.case_diagnosis.ensures.report

pub returns-clause-candidates : goal.returns-clause-candidates
returns-clause-candidates g c =
    let t = c.args.case.now.test in
    let log = c.args.injected.log in
    let k = c.add_log.new.self in
    let one : k ≡ demo_case t (log ∷ []) = with_one t c.in_ok-add_log.field-0 log c.args.case.now k c.requires.case.is c.in_ok-add_log.ensures.added c.in_ok-add_log.ensures.kept in
    let are = candidates_are t c.args.injected.place log c.requires.found.own k one in
    IfOk-weaker c.case_diagnosis.result (λ (x : Diagnosis). x.candidates ≡ ranked (candidates k.test (facts_of k.logs))) (λ (x : Diagnosis). x.candidates ≡ own_candidates t (fault_of t c.args.injected.place))
    (λ x e. e ∙ are) c.case_diagnosis.ensures.candidates
