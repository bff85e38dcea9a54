use Rattle.std.proofs.Common.{◌≡◌, ℕ, List, ◌++◌, length, codes, decimal, ◌∷◌, refl, ap, ◌∙◌}
use Rattle.std.proofs.lemmas.Result.{on_ok_weaker}
use Rattle.scan_model.specs.declared.logs.Scored.{Scored}
use Rattle.scan_model.specs.ScanTest.{ScanTest}
use Rattle.scan_model.specs.ReportText.{concatenated, line, fault_words}
use Rattle.diag_report.specs.PredictedLog.{fault_of, predicted_bits}
use Rattle.diag_report.specs.Summary.{count_line}
use Rattle.diagnosis.specs.Designs.{ReadLogFacts}
use Rattle.made_designs.specs.Demo.{rank_lines}
use Rattle.made_designs.proofs.DemoLines.{diagnosis_added}
use Rattle.made_designs.proofs.demo.add_diagnosis.Goals as goal

pub returns : goal.returns
returns g c =
    let t = c.args.case.now.test in
    let place = c.args.injected.place in
    let f = fault_of t place in
    let log = c.args.injected.log in
    let made = c.in_ok-diagnosis.diagnosis in
    let fails : length log.facts.fails ≡ length (predicted_bits t f) = ap (λ (log : ReadLogFacts). length log.facts.fails) c.requires.found.own.is in
    let t1 = c.args.text.now ++ line (codes "injected" ∷ decimal place ∷ fault_words t f) in
    let t2 = c.add_fault.new.text in
    let t3 = t2 ++ count_line (codes "candidates") (length {A = Scored} made.candidates) in
    let t4 = t3 ++ concatenated (rank_lines made.candidates place) in
    let told : t2 ≡ t1 ++ count_line (codes "fails") (length log.facts.fails) =
    c.in_ok-add_fault.ensures
    ∙ ap (λ (t : ScanTest). (c.args.text.now ++ line (codes "injected" ∷ decimal place ∷ fault_words t (fault_of t place))) ++ count_line (codes "fails") (length log.facts.fails)) c.parts.ensures in
    on_ok_weaker c.add_ranking-added.result
    (
    diagnosis_added t place (length log.facts.fails) (length made.candidates) made.candidates (concatenated made.report)
    c.args.text.now t1 t2 t3 t4 c.add_ranking-added.new.text
    fails c.in_ok-diagnosis.ensures.candidates c.in_ok-diagnosis.ensures.report refl refl told refl refl
    )
    c.add_ranking-added.ensures
