use Rattle.std.proofs.Common.{◌≡◌, ◌∙◌, Global, refl, sym, length}
use Rattle.std.specs.Arc.{arc_value}
use Rattle.std.specs.declared.sync.Arc.{Arc}
use Rattle.std.proofs.lemmas.List.{length-map}
use Rattle.std.proofs.lemmas.Result.{IfOk-weaker}
use Rattle.scan_model.specs.Universe.{universe}
use Rattle.scan_model.specs.Classes.{class_with}
use Rattle.scan_model.specs.MatchCounts.{candidates}
use Rattle.diag_report.proofs.GivenRows.{layout_given}
use Rattle.diagnosis.specs.declared.log.ReadLog.{ReadLog}
use Rattle.diagnosis.specs.Designs.{ReadLogFacts, facts_of}
use Rattle.diagnosis.specs.Cases.{case_lines}
use Rattle.diagnosis.specs.Subjects.{subject_case}
use Rattle.diagnosis.proofs.Reports.{layout_is_report, case_lines_are}
use Rattle.diagnosis.proofs.diagnosed.report_over.Goals as goal

pub returns : goal.returns
returns g c =
    let s = c.args.subject.now in
    let k = subject_case s in
    let logs = facts_of k.logs in
    let head = c.in_ok-head.head in
    let rows = c.args.rows.now in
    let count : head.logs ≡ length logs =
    c.in_ok-head.ensures.logs ∙ sym (length-map k.logs (λ (log : ReadLogFacts). log.facts) ∙ length-map s.logs.now (λ (log : Arc ReadLog Global). arc_value log)) in
    let is = layout_is_report k.test logs (candidates k.test logs) rows refl head.design head.die k.design k.die head.logs
    (λ _. c.requires.ranked) c.in_ok-head.ensures.design c.in_ok-head.ensures.die count in
    let given = layout_given k.test logs s.expected.now c.requires.subject.expected_of_test (universe k.test) head.design head.die head.logs rows in
    IfOk-weaker c.make_text.result _ (λ report. report ≡ case_lines k) (λ report shown. shown ∙ given ∙ is ∙ case_lines_are k c.requires.subject.case) (c.make_text.ensures (class_with s.expected.now logs) c.requires.tally.classes)
