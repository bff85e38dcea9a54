-- The die with the log of the fault that is put in.
use Rattle.std.proofs.Common.{◌≡◌, ℕ, List, [], ◌∷◌, sym, ap, subst, ◌∙◌}
use Rattle.scan_model.specs.ScanTest.{ScanTest}
use Rattle.scan_model.specs.MatchCounts.{candidates}
use Rattle.scan_model.specs.Ranking.{ranked}
use Rattle.scan_model.specs.DieReport.{die_report}
use Rattle.diag_report.specs.PredictedLog.{fault_of}
use Rattle.diagnosis.specs.declared.put.Put.{Put}
use Rattle.diagnosis.specs.declared.put.Put.TheVariants.{Created, Same}
use Rattle.diagnosis.specs.Designs.{ReadLogFacts, facts_of}
use Rattle.diagnosis.specs.Cases.{CaseFacts, IsLogOver, AddedAmong, with_logs, case_report}
use Rattle.made_designs.specs.Demo.{demo_name, own_candidates, own_report}
use Rattle.made_designs.specs.InjectedFaults.{IsDemoCase, IsOwnLog, demo_case}

pub is_demo_case : (t : ScanTest) (k : CaseFacts) → k ≡ demo_case t [] → IsDemoCase k
is_demo_case t k is = record { is = is ∙ ap (λ (t : ScanTest). demo_case t []) (sym (ap (λ (k : CaseFacts). k.test) is)) }

-- a log that is added to none is the one
only_log : (put : Put) (log : ReadLogFacts) (new : List ReadLogFacts) → AddedAmong put log [] new → new ≡ log ∷ []
only_log (Created number) log new added = added.2
only_log (Same number) log new added = absurd (let none = added.0 in cc)

pub with_one : (t : ScanTest) (put : Put) (log : ReadLogFacts) (k new : CaseFacts) → k ≡ demo_case t [] → AddedAmong put log k.logs new.logs → new ≡ with_logs k new.logs → new ≡ demo_case t (log ∷ [])
with_one t put log k new is added kept =
    let Among : List ReadLogFacts → Type 0 = λ logs. AddedAmong put log logs new.logs in
    let one = only_log put log new.logs (subst Among (ap (λ (k : CaseFacts). k.logs) is) added) in
    kept ∙ ap (λ (k : CaseFacts). with_logs k new.logs) is ∙ ap (demo_case t) one

module _ (t : ScanTest) (place : ℕ) (log : ReadLogFacts) (own : IsOwnLog t place log) where
  is_log_over : IsLogOver t demo_name demo_name log
  is_log_over = record { of_design = ap (λ (l : ReadLogFacts). l.design) own.is; of_die = ap (λ (l : ReadLogFacts). l.die) own.is; stands = own.stands }

  pub is_log_of_case : (k : CaseFacts) → k ≡ demo_case t [] → IsLogOver k.test k.design k.die log
  is_log_of_case k is = subst (λ (k : CaseFacts). IsLogOver k.test k.design k.die log) (sym is) is_log_over

  pub report_is : (k : CaseFacts) → k ≡ demo_case t (log ∷ []) → case_report k ≡ own_report t (fault_of t place)
  report_is k is = ap case_report is ∙ ap (λ (l : ReadLogFacts). die_report t demo_name demo_name (l.text ∷ [])) own.is

  pub candidates_are : (k : CaseFacts) → k ≡ demo_case t (log ∷ []) → ranked (candidates k.test (facts_of k.logs)) ≡ own_candidates t (fault_of t place)
  candidates_are k is =
      ap (λ (k : CaseFacts). ranked (candidates k.test (facts_of k.logs))) is ∙ ap (λ (l : ReadLogFacts). ranked (candidates t (l.facts ∷ []))) own.is
