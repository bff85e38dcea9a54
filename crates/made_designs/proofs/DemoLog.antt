-- The log of the fault that is put in, as it is read.
use Rattle.std.proofs.Common.{◌≡◌, ℕ, List, Result, Ok, Err, refl, subst, ◌∙◌}
use Rattle.scan_model.specs.declared.logs.LogFacts.{LogFacts}
use Rattle.scan_model.specs.ScanTest.{ScanTest}
use Rattle.scan_model.specs.LogText.{log_frame, log_reading}
use Rattle.diag_report.specs.PredictedLog.{fault_of, predicted_log, predicted_facts}
use Rattle.diagnosis.specs.Designs.{ReadLogFacts}
use Rattle.diagnosis.specs.Cases.{CaseFacts, IsLogOver}
use Rattle.made_designs.specs.Demo.{demo_name}
use Rattle.made_designs.specs.InjectedFaults.{IsDemoCase, IsOwnLog}

same_value : {X E : Type 0} (r : Result X E) (x y : X) → r ≡ Ok x → r ≡ Ok y → x ≡ y
same_value r x y a b = cc

not_both : {X E : Type 0} (r : Result X E) (x : X) (e : E) → r ≡ Ok x → r ≡ Err e → ⊥
not_both r x e a b = cc

parts_are : (log : ReadLogFacts) (design die text : List ℕ) (facts : LogFacts) → log.design ≡ design → log.die ≡ die → log.text ≡ text → log.facts ≡ facts
    → log ≡ record { design = design; die = die; text = text; facts = facts }
parts_are log design die text facts a b c d = rw (← a, ← b, ← c, ← d) refl

-- what the die of the demo predicts
module _ (k : CaseFacts) (demo : IsDemoCase k) (place : ℕ) (text : List ℕ) where
  pub is_predicted : text ≡ predicted_log k.test k.design k.die (fault_of k.test place) → text ≡ predicted_log k.test demo_name demo_name (fault_of k.test place)
  is_predicted is = subst (λ (j : CaseFacts). text ≡ predicted_log k.test j.design j.die (fault_of k.test place)) demo.is is

  pub is_read : log_reading (log_frame k.test k.design k.die) text ≡ Ok (predicted_facts k.test (fault_of k.test place)) → log_reading (log_frame k.test demo_name demo_name) text ≡ Ok (predicted_facts k.test (fault_of k.test place))
  is_read reads = subst (λ (j : CaseFacts). log_reading (log_frame k.test j.design j.die) text ≡ Ok (predicted_facts k.test (fault_of k.test place))) demo.is reads

module _ (t : ScanTest) (place : ℕ) (text : List ℕ) (predicted : log_reading (log_frame t demo_name demo_name) text ≡ Ok (predicted_facts t (fault_of t place))) where
  -- it isn't refused
  pub not_refused : (fault : ℕ × ℕ) → log_reading (log_frame t demo_name demo_name) text ≡ Err fault → ⊥
  not_refused fault refused = not_both (log_reading (log_frame t demo_name demo_name) text) (predicted_facts t (fault_of t place)) fault predicted refused

  pub own_log_read : (log : ReadLogFacts) → text ≡ predicted_log t demo_name demo_name (fault_of t place)
      → IsLogOver t demo_name demo_name log → log.text ≡ text → log_reading (log_frame t demo_name demo_name) text ≡ Ok log.facts → IsOwnLog t place log
  own_log_read log is_text of of_text read =
      let f = fault_of t place in
      let facts : log.facts ≡ predicted_facts t f = same_value (log_reading (log_frame t demo_name demo_name) text) log.facts (predicted_facts t f) read predicted in
      record {
        is = parts_are log demo_name demo_name (predicted_log t demo_name demo_name f) (predicted_facts t f) of.of_design of.of_die (of_text ∙ is_text) facts;
        stands = of.stands;
      }
