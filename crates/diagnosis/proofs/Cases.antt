-- Dies with different logs.
use Rattle.std.proofs.Common.{◌≡◌, ℕ, true, false, List, [], ◌∷◌, ◌++◌, ◌<◌, length, map, get_or, Global, Result, Ok, Err, refl, sym, ap, subst, ◌∙◌, arith}
use Rattle.std.specs.Prelude.{All, filter_map, IfOk, OnErr}
use Rattle.std.specs.List.{IsDistinct}
use Rattle.std.proofs.lemmas.Cmp.{nat_list_eq_equiv}
use Rattle.std.proofs.lemmas.List.{map-append, length-map, get_or-map}
use Rattle.std.proofs.lemmas.List.Elements.{All-nil, All-cons, All-append, All-head, All-tail, All-weaker}
use Rattle.std.proofs.lemmas.Map.Keys.{IsDistinct-push}
use Rattle.std.specs.Arc.{arc_value}
use Rattle.std.specs.declared.sync.Arc.{Arc}
use Rattle.scan_model.specs.declared.rows.NoMemory.{NoMemory}
use Rattle.scan_model.specs.ScanTest.{ScanTest}
use Rattle.scan_model.specs.Words.{is_tag, has_word}
use Rattle.scan_model.specs.LogText.{log_frame, log_reading}
use Rattle.scan_model.specs.DieReport.{accepted, logs_of_texts}
use Rattle.diagnosis.specs.declared.log.ReadLog.{ReadLog}
use Rattle.diagnosis.specs.declared.put.Put.{Put}
use Rattle.diagnosis.specs.declared.put.Put.TheVariants.{Created, Same}
use Rattle.diagnosis.specs.Designs.{ReadLogFacts, StandsOver, texts_of, facts_of}
use Rattle.diagnosis.specs.Cases.{CaseFacts, IsCase, IsLogOver, AddedAmong, with_logs, log_in}
use Rattle.diagnosis.proofs.DifferentTexts.{different_is}

abbrev pub case_with : ScanTest → List ℕ → List ℕ → List ReadLogFacts → CaseFacts
case_with t design die logs = record { design = design; die = die; test = t; logs = logs }

pub case_without_logs : (t : ScanTest) (design die : List ℕ) → is_tag design ≡ true → is_tag die ≡ true → IsCase (case_with t design die [])
unfolding IsDistinct
case_without_logs t design die design_tag die_tag = record { design = design_tag; die = die_tag; logs = All-nil (IsLogOver t design die); differ = tt }

-- a case is its parts
pub same_case : (k : CaseFacts) (t : ScanTest) (design die : List ℕ) (logs : List ReadLogFacts) → t ≡ k.test → design ≡ k.design → die ≡ k.die → logs ≡ k.logs
    → case_with t design die logs ≡ k
same_case k t design die logs is_test is_design is_die are_logs = rw (is_test, is_design, is_die, are_logs) refl

-- ---- a log is added

-- a log of the case with this text
pub log_is : (k : CaseFacts) (log : ReadLogFacts) (text : List ℕ) → IsLogOver k.test k.design k.die log → log.text ≡ text → log ≡ log_in k text log.facts
log_is k log text of is_text = rw (← of.of_design, ← of.of_die, ← is_text) refl

module _ (k : CaseFacts) (log : ReadLogFacts) (case : IsCase k) (of : IsLogOver k.test k.design k.die log) where
  -- one more log, of a text that isn't there
  with_log : has_word (texts_of k.logs) log.text ≡ false → IsCase (with_logs k (k.logs ++ log ∷ []))
  with_log new =
      let P : ReadLogFacts → Type 0 = IsLogOver k.test k.design k.die in
      let texts : texts_of (k.logs ++ log ∷ []) ≡ texts_of k.logs ++ log.text ∷ [] = map-append (λ (l : ReadLogFacts). l.text) k.logs (log ∷ []) in
      record {
        design = case.design;
        die = case.die;
        logs = All-append P k.logs (log ∷ []) case.logs (All-cons P log [] of (All-nil P));
        differ = rw texts (IsDistinct-push nat_list_eq_equiv (texts_of k.logs) log.text case.differ new);
      }

  pub case_added : (put : Put) (new : List ReadLogFacts) → AddedAmong put log k.logs new → IsCase (with_logs k new)
  case_added (Created number) new added = subst (λ (logs : List ReadLogFacts). IsCase (with_logs k logs)) (sym added.2) (with_log added.0)
  case_added (Same number) new added = subst (λ (logs : List ReadLogFacts). IsCase (with_logs k logs)) (sym added.2) case

  -- so it stays a case where memory runs out, too
  pub case_after : (answer : Result Put NoMemory) (new : List ReadLogFacts) → IfOk answer (λ put. AddedAmong put log k.logs new) → OnErr answer (new ≡ k.logs) → IsCase (with_logs k new)
  case_after (Ok put) new added kept = case_added put new added
  case_after (Err e) new added kept = subst (λ (logs : List ReadLogFacts). IsCase (with_logs k logs)) (sym kept) case

-- ---- what its logs say

module _ (t : ScanTest) (design die : List ℕ) where
  read_back : (logs : List ReadLogFacts) → All (IsLogOver t design die) logs → filter_map (λ text. accepted (log_reading (log_frame t design die) text)) (texts_of logs) ≡ facts_of logs
  read_back [] all = refl
  read_back (log ∷ logs) all =
      let of = All-head (IsLogOver t design die) log logs all in
      let stands : log_reading (log_frame t design die) log.text ≡ Ok log.facts = rw (of.of_design, of.of_die) at of.stands in
      rw stands (ap (λ rest. log.facts ∷ rest) (read_back logs (All-tail (IsLogOver t design die) log logs all)))

-- its texts stand for what its logs say
pub texts_stand : (k : CaseFacts) → IsCase k → logs_of_texts k.test k.design k.die (texts_of k.logs) ≡ facts_of k.logs
texts_stand k case =
    ap (filter_map (λ text. accepted (log_reading (log_frame k.test k.design k.die) text))) (different_is (texts_of k.logs) case.differ)
    ∙ read_back k.test k.design k.die k.logs case.logs

-- they stand over the test of the design
pub logs_stand : (k : CaseFacts) → IsCase k → All (StandsOver k.test) k.logs
logs_stand k case = All-weaker (IsLogOver k.test k.design k.die) (StandsOver k.test) (λ log of. of.stands) k.logs case.logs

-- what holds of all logs holds of each
pub log_at : (P : ReadLogFacts → Type 0) (logs : List (Arc ReadLog Global)) (i : ℕ) (log : Arc ReadLog Global) → All P (map (λ log. arc_value log) logs) → i < length logs → log ≡ get_or logs i log → P (arc_value log)
log_at P logs i log all below is =
    let at : get_or (map (λ log. arc_value log) logs) i (arc_value log) ≡ arc_value log =
    get_or-map (λ (log : Arc ReadLog Global). arc_value log) logs i log (arc_value log) below ∙ ap (λ (l : Arc ReadLog Global). arc_value l) (sym is) in
    subst P at (all i (arc_value log) (omega (arith, length-map logs (λ (log : Arc ReadLog Global). arc_value log), below)))
