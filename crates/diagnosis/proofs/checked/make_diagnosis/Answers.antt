use Rattle.std.proofs.Common.{◌≡◌, ◌∙◌, Global, List, ap, sym, subst, map}
use Rattle.std.specs.Arc.{arc_value}
use Rattle.std.specs.declared.sync.Arc.{Arc}
use Rattle.std.proofs.lemmas.Result.{IfOk-weaker}
use Rattle.scan_model.specs.Lines.{pieces}
use Rattle.scan_model.specs.ScanTest.{ScanTest}
use Rattle.scan_model.specs.MatchCounts.{candidates}
use Rattle.scan_model.specs.Ranking.{ranked}
use Rattle.scan_model.specs.Response.{expected_rows}
use Rattle.scan_model.specs.ReportText.{concatenated}
use Rattle.packed_sim.specs.PackedParts.{BelongsTo}
use Rattle.diagnosis.specs.declared.diagnosed.Diagnosis.{Diagnosis}
use Rattle.diagnosis.specs.declared.log.ReadLog.{ReadLog}
use Rattle.diagnosis.specs.Designs.{facts_of, view_lines, view_report}
use Rattle.diagnosis.specs.DesignRows.{rows_in}
use Rattle.diagnosis.specs.Cases.{CaseFacts, IsCase, case_lines}
use Rattle.diagnosis.proofs.CutReports.{view_cut}
use Rattle.diagnosis.proofs.Cases.{case_with}
use Rattle.diagnosis.proofs.Views.{view_is_case, case_is}
use Rattle.diagnosis.proofs.checked.make_diagnosis.Goals as goal

pub diagnosis_of-requires-clause-subject : goal.diagnosis_of-requires-clause-subject
diagnosis_of-requires-clause-subject g c κs within =
    let v = c.args.view.now in
    let d = c.design-design.result.now in
    let logs = map (λ (log : Arc ReadLog Global). arc_value log) c.as_slice.result.now in
    let is = case_is v d c.parts-parts.result.now c.name.result.now c.die.result.now logs
    c.design-design.ensures c.parts-parts.ensures.value c.name.ensures.value c.die.ensures (ap (λ (ls : List (Arc ReadLog Global)). map (λ (log : Arc ReadLog Global). arc_value log) ls) c.as_slice.ensures ∙ c.logs.ensures.logs) in
    record {
      case = subst IsCase (sym is) (view_is_case v c.logs.ensures.view);
      good_of_test = subst (BelongsTo c.parts-parts.result.now) (sym c.good.ensures) (subst (λ (t : ScanTest). BelongsTo t (rows_in c.in_ok-rows.rows)) (sym c.parts-parts.ensures.value) c.in_ok-rows.ensures);
      expected_of_test = c.expected.ensures ∙ ap expected_rows (sym c.parts-parts.ensures.value);
    }

pub returns-clause-lines : goal.returns-clause-lines
returns-clause-lines g c =
    let v = c.args.view.now in
    let d = c.design-design.result.now in
    let logs = map (λ (log : Arc ReadLog Global). arc_value log) c.as_slice.result.now in
    let is = case_is v d c.parts-parts.result.now c.name.result.now c.die.result.now logs
    c.design-design.ensures c.parts-parts.ensures.value c.name.ensures.value c.die.ensures (ap (λ (ls : List (Arc ReadLog Global)). map (λ (log : Arc ReadLog Global). arc_value log) ls) c.as_slice.ensures ∙ c.logs.ensures.logs) in
    IfOk-weaker c.diagnosis_of.result (λ (made : Diagnosis). made.report ≡ case_lines (case_with c.parts-parts.result.now c.name.result.now c.die.result.now logs))
    (λ (made : Diagnosis). made.report ≡ view_lines v) (λ made e. e ∙ ap case_lines is) c.diagnosis_of.ensures.lines

pub returns-clause-report : goal.returns-clause-report
returns-clause-report g c =
    let lines = returns-clause-lines g c in
    IfOk-weaker c.diagnosis_of.result (λ (made : Diagnosis). made.report ≡ view_lines c.args.view.now) (λ (made : Diagnosis). concatenated made.report ≡ view_report c.args.view.now)
    (λ made e. ap concatenated e) lines

pub returns-clause-cut : goal.returns-clause-cut
returns-clause-cut g c =
    let lines = returns-clause-lines g c in
    IfOk-weaker c.diagnosis_of.result (λ (made : Diagnosis). made.report ≡ view_lines c.args.view.now) (λ (made : Diagnosis). pieces (view_report c.args.view.now) ≡ made.report)
    (λ made e. view_cut c.args.view.now c.logs.ensures.view ∙ sym e) lines

pub returns-clause-candidates : goal.returns-clause-candidates
returns-clause-candidates g c =
    let v = c.args.view.now in
    let d = c.design-design.result.now in
    let logs = map (λ (log : Arc ReadLog Global). arc_value log) c.as_slice.result.now in
    let is = case_is v d c.parts-parts.result.now c.name.result.now c.die.result.now logs
    c.design-design.ensures c.parts-parts.ensures.value c.name.ensures.value c.die.ensures (ap (λ (ls : List (Arc ReadLog Global)). map (λ (log : Arc ReadLog Global). arc_value log) ls) c.as_slice.ensures ∙ c.logs.ensures.logs) in
    IfOk-weaker c.diagnosis_of.result (λ (made : Diagnosis). made.candidates ≡ ranked (candidates c.parts-parts.result.now (facts_of logs)))
    (λ (made : Diagnosis). made.candidates ≡ ranked (candidates v.design.test (facts_of v.logs)))
    (λ made e. e ∙ ap (λ (k : CaseFacts). ranked (candidates k.test (facts_of k.logs))) is) c.diagnosis_of.ensures.candidates
