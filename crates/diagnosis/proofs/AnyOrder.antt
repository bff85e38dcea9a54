-- The order and the repeats of a die's logs don't matter.
use Rattle.std.proofs.Common.{◌≡◌, ◌≢◌, ℕ, suc, Bool, true, false, not, ◌||◌, ◌&&◌, List, [], ◌∷◌, length, map, filter, Option, Some, None, refl, sym, ap, ◌∙◌}
use Rattle.std.specs.Prelude.{filter_map, count_by}
use Rattle.std.specs.List.{list_any, enumerate_from, IsDistinct}
use Rattle.std.specs.Str.{bytes_eq}
use Rattle.std.proofs.lemmas.Cmp.{nat_list_eq_equiv}
use Rattle.std.proofs.lemmas.List.Elements.{filter_agree}
use Rattle.std.proofs.lemmas.List.Kept.{AllPairs-filter}
use Rattle.std.proofs.lemmas.Map.Made.{length-from_same_keys, is_member-filter, AllPairs-from_IsDistinct, IsDistinct-from_AllPairs}
use Rattle.std.proofs.lemmas.Slice.Eq.{bytes_eq-Decides}
use Rattle.scan_model.specs.declared.fault.Fault.{Fault}
use Rattle.scan_model.specs.declared.logs.Bit.{Bit}
use Rattle.scan_model.specs.declared.logs.LogFacts.{LogFacts}
use Rattle.scan_model.specs.declared.logs.BitClass.{BitClass}
use Rattle.scan_model.specs.declared.logs.Counts.{Counts}
use Rattle.scan_model.specs.declared.logs.Scored.{Scored}
use Rattle.scan_model.specs.ScanTest.{ScanTest}
use Rattle.scan_model.specs.Coverage.{lists, covers, bits_of}
use Rattle.scan_model.specs.Response.{predicts_fail}
use Rattle.scan_model.specs.Classes.{class, is_conflict, is_masked, is_failing, is_passing}
use Rattle.scan_model.specs.Universe.{universe}
use Rattle.scan_model.specs.MatchCounts.{counts_of, candidates_among, is_candidate}
use Rattle.scan_model.specs.LogText.{log_frame, log_reading}
use Rattle.scan_model.specs.ReportText.{bits_that, report_lines_among, concatenated}
use Rattle.scan_model.specs.DieReport.{different, accepted, logs_of_texts, die_report}
use Rattle.log_join.proofs.AnyOrder.{list_any-same_members}
use Rattle.diagnosis.specs.Designs.{HaveSameTexts}
use Rattle.diagnosis.proofs.DifferentTexts.{any_different, different_differ}

-- ---- what texts stand for

-- there is something, and it passes
abbrev passes_as : {Y : Type 0} → (Y → Bool) → Option Y → Bool
passes_as p None = false
passes_as p (Some y) = p y

module _ {X Y : Type 0} (f : X → Option Y) where
  any_of_kept : (p : Y → Bool) (xs : List X) → list_any p (filter_map f xs) ≡ list_any (λ x. passes_as p (f x)) xs
  any_of_kept p [] = refl
  any_of_kept p (x ∷ xs) = go (f x) refl (any_of_kept p xs)
    where
      go : (o : Option Y) → f x ≡ o → list_any p (filter_map f xs) ≡ list_any (λ x. passes_as p (f x)) xs → list_any p (filter_map f (x ∷ xs)) ≡ (passes_as p (f x) || list_any (λ x. passes_as p (f x)) xs)
      go None e later = rw e later
      go (Some y) e later = rw e (ap (λ b. p y || b) later)

  abbrev is_kept : X → Bool
  is_kept x = passes_as (λ y. true) (f x)

  number_kept : (xs : List X) → length (filter_map f xs) ≡ length (filter is_kept xs)
  number_kept [] = refl
  number_kept (x ∷ xs) = go (f x) refl (number_kept xs)
    where
      go : (o : Option Y) → f x ≡ o → length (filter_map f xs) ≡ length (filter is_kept xs) → length (filter_map f (x ∷ xs)) ≡ length (filter is_kept (x ∷ xs))
      go None e later = rw e later
      go (Some y) e later = rw e (ap suc later)

-- ---- two lists with the same texts

keeps_distinct : (p : List ℕ → Bool) (xs : List (List ℕ)) → IsDistinct bytes_eq xs → IsDistinct bytes_eq (filter p xs)
keeps_distinct p xs differ =
    let Differ : List ℕ → List ℕ → Type 0 = λ x y. x ≢ y in
    IsDistinct-from_AllPairs bytes_eq-Decides (filter p xs) (AllPairs-filter Differ p xs (AllPairs-from_IsDistinct bytes_eq-Decides xs differ))

module _ (texts others : List (List ℕ)) (same : HaveSameTexts texts others) where
  -- a test passes among the different texts of both or of none
  any_alike : (p : List ℕ → Bool) → list_any p (different texts) ≡ list_any p (different others)
  any_alike p = any_different p texts ∙ list_any-same_members p texts others same.0 same.1 ∙ sym (any_different p others)

  as_many : (p : List ℕ → Bool) → length (filter p (different texts)) ≡ length (filter p (different others))
  as_many p =
      let alike : (q x : List ℕ) → bytes_eq q x ≡ true → p q ≡ p x = λ q x e. ap p ((bytes_eq-Decides q x).0 e) in
      length-from_same_keys nat_list_eq_equiv (filter p (different texts)) (filter p (different others))
      (keeps_distinct p (different texts) (different_differ texts))
      (keeps_distinct p (different others) (different_differ others))
      (λ q. is_member-filter nat_list_eq_equiv p q (alike q) (different texts) ∙ ap (λ b. b && p q) (any_alike (bytes_eq q)) ∙ sym (is_member-filter nat_list_eq_equiv p q (alike q) (different others)))

  module _ (t : ScanTest) (design die : List ℕ) where
    abbrev stands_for : List ℕ → Option LogFacts
    stands_for text = accepted (log_reading (log_frame t design die) text)

    pub same_number_of_logs : length (logs_of_texts t design die texts) ≡ length (logs_of_texts t design die others)
    same_number_of_logs = number_kept stands_for (different texts) ∙ as_many (is_kept stands_for) ∙ sym (number_kept stands_for (different others))

    pub some_log_alike : (p : LogFacts → Bool) → list_any p (logs_of_texts t design die texts) ≡ list_any p (logs_of_texts t design die others)
    some_log_alike p =
        any_of_kept stands_for p (different texts) ∙ any_alike (λ text. passes_as p (stands_for text)) ∙ sym (any_of_kept stands_for p (different others))

-- ---- two lists of logs that no bit tells apart

module _ (t : ScanTest) (logs others : List LogFacts) (alike : (p : LogFacts → Bool) → list_any p logs ≡ list_any p others) where
  class_alike : (b : Bit) → class t logs b ≡ class t others b
  class_alike b = rw (alike (λ log. covers log b && lists log b), alike (λ log. covers log b && not (lists log b))) refl

  bits_alike : (is : BitClass → Bool) → bits_that t logs is ≡ bits_that t others is
  bits_alike is = filter_agree (λ b. is (class t logs b)) (λ b. is (class t others b)) (λ b. ap is (class_alike b)) (bits_of t)

  classes : class t logs ≡ class t others
  classes = λ i. λ b. class_alike b i

  counts_alike : (f : Fault) → counts_of t logs f ≡ counts_of t others f
  counts_alike f = ap (λ (kind : Bit → BitClass). let counts : Counts = record {
    tfsf = count_by (λ b. is_failing (kind b) && predicts_fail t f b) (bits_of t);
    tfsp = count_by (λ b. is_failing (kind b) && not (predicts_fail t f b)) (bits_of t);
    tpsf = count_by (λ b. is_passing (kind b) && predicts_fail t f b) (bits_of t);
  } in counts) classes

  candidates_alike : (faults : List Fault) → candidates_among faults t logs ≡ candidates_among faults t others
  candidates_alike faults = ap (λ (counts : Fault → Counts). filter is_candidate (map (λ (e : ℕ × Fault). let row : Scored = record { place = e.0; counts = counts e.1 } in row) (enumerate_from 0 faults))) (λ i. λ f. counts_alike f i)

  pub report_alike : (faults : List Fault) (design die : List ℕ) → length logs ≡ length others → report_lines_among faults t design die logs ≡ report_lines_among faults t design die others
  report_alike faults design die as_long = rw (as_long, bits_alike is_failing, bits_alike is_passing, bits_alike is_conflict, bits_alike is_masked, candidates_alike faults) refl

-- texts that differ in order and repeats alone have one report
pub one_report : (t : ScanTest) (design die : List ℕ) (texts others : List (List ℕ)) → HaveSameTexts texts others → die_report t design die texts ≡ die_report t design die others
one_report t design die texts others same =
    ap concatenated (report_alike t (logs_of_texts t design die texts) (logs_of_texts t design die others) (some_log_alike texts others same t design die) (universe t) design die (same_number_of_logs texts others same t design die))
