-- The counts of one pattern more.
use Rattle.std.proofs.Common.{◌≡◌, ℕ, zero, suc, ◌+◌, ◌<◌, ◌≤◌, Bool, true, false, cond, ltb, ◌&&◌, ◌||◌, List, [], ◌∷◌, ◌++◌, length, map, refl, sym, ap, ◌∙◌, inl, inr, arith}
use Rattle.std.specs.Prelude.{filter, count_by}
use Rattle.std.specs.List.{list_any, range_with_len, enumerate_from}
use Rattle.std.proofs.lemmas.Bool.{cases_Bool, lt-ltb}
use Rattle.scan_model.specs.declared.fault.Fault.{Fault}
use Rattle.scan_model.specs.declared.logs.LogFacts.{LogFacts}
use Rattle.scan_model.specs.ScanTest.{ScanTest}
use Rattle.scan_model.specs.Universe.{universe}
use Rattle.slat_view.specs.declared.slat.Slat.{Slat}
use Rattle.slat_view.specs.declared.slat.SlatCount.{SlatCount}
use Rattle.slat_view.specs.Slat.{is_failing_pattern, is_explained, fits, fitting_places, slat_count}
use Rattle.slat_view.specs.Tests.{IsSlatUpTo}
use Rattle.slat_view.proofs.Ranges.{count_more, rows_more}

any_is_some : (p : Fault → Bool) (a : ℕ) (fs : List Fault) → list_any p fs ≡ ltb 0 (length (map (λ (e : ℕ × Fault). e.0) (filter (λ e. p e.1) (enumerate_from a fs))))
any_is_some p a [] = refl
any_is_some p a (f ∷ fs) = elim (cases_Bool (p f)) [
  | inl is ↦ rw is (sym (lt-ltb 0 (suc (length (map (λ (e : ℕ × Fault). e.0) (filter (λ e. p e.1) (enumerate_from (a + 1) fs))))) (omega arith)))
  | inr is ↦ rw is (any_is_some p (a + 1) fs)
]

-- a pattern is explained where a fault fits it
pub explained_is : (t : ScanTest) (logs : List LogFacts) (w : ℕ) → is_explained t logs w ≡ ltb 0 (length (fitting_places t logs w))
explained_is t logs w = any_is_some (fits t logs w) 0 (universe t)

pub pattern_more : (t : ScanTest) (logs : List LogFacts) (w : ℕ) (old new : Slat) (fails : Bool) (faults : ℕ) → IsSlatUpTo t logs w old
    → fails ≡ is_failing_pattern t logs w → faults ≡ length (fitting_places t logs w)
    → new.failing ≡ old.failing + cond fails 1 0 → new.rows ≡ old.rows ++ cond (ltb 0 faults) (record { pattern = w; faults = faults } ∷ []) []
    → IsSlatUpTo t logs (w + 1) new
pattern_more t logs w old new fails faults so_far is_failing is_count failing rows = record {
  failing = failing ∙ rw (so_far.failing, is_failing) (sym (count_more (is_failing_pattern t logs) w));
  rows = rows ∙ rw (so_far.rows, is_count) (ap (λ (b : Bool). map (slat_count t logs) (filter (is_explained t logs) (range_with_len 0 w)) ++ cond b (slat_count t logs w ∷ []) []) (sym (explained_is t logs w)) ∙ sym (rows_more (slat_count t logs) (is_explained t logs) w));
}

pub one_most : (b : Bool) → cond {A = ℕ} b 1 0 ≤ 1
one_most true = omega arith
one_most false = omega arith

few_listed : (p : Fault → Bool) (a : ℕ) (fs : List Fault) → length (map (λ (e : ℕ × Fault). e.0) (filter (λ e. p e.1) (enumerate_from a fs))) ≤ length fs
few_listed p a [] = omega arith
few_listed p a (f ∷ fs) = elim (cases_Bool (p f)) [
  | inl is ↦ rw is (omega (arith, few_listed p (a + 1) fs))
  | inr is ↦ rw is (omega (arith, few_listed p (a + 1) fs))
]

-- no more faults fit than there are
pub few_fit : (t : ScanTest) (logs : List LogFacts) (w : ℕ) → length (fitting_places t logs w) ≤ length (universe t)
few_fit t logs w = few_listed (fits t logs w) 0 (universe t)

-- ---- the faults of one number, where it is a pattern's

shown : (b : Bool) (fitting places : List ℕ) → places ≡ cond b fitting [] → 0 < length places → (b ≡ true) × (places ≡ fitting)
shown true fitting places is some = (refl, is)
shown false fitting places is some = absurd (let none : length places ≡ 0 = ap length is in omega (arith, none, some))

hidden : (b : Bool) (fitting places : List ℕ) → places ≡ cond b fitting [] → length places ≡ 0 → (b && ltb 0 (length fitting)) ≡ false
hidden true fitting places is none = let same : length fitting ≡ 0 = ap length (sym is) ∙ none in rw same refl
hidden false fitting places is none = refl

pub pattern_shown : (t : ScanTest) (logs : List LogFacts) (w : ℕ) (places : List ℕ) → places ≡ cond (ltb w (length t.patterns)) (fitting_places t logs w) [] → 0 < length places
    → ((ltb w (length t.patterns) && is_explained t logs w) ≡ true) × (places ≡ fitting_places t logs w)
pattern_shown t logs w places is some =
    let found = shown (ltb w (length t.patterns)) (fitting_places t logs w) places is some in
    let many : ltb 0 (length (fitting_places t logs w)) ≡ true = lt-ltb 0 (length (fitting_places t logs w)) (omega (arith, some, ap length found.1)) in
    (rw (found.0, explained_is t logs w, many) refl, found.1)

pub pattern_hidden : (t : ScanTest) (logs : List LogFacts) (w : ℕ) (places : List ℕ) → places ≡ cond (ltb w (length t.patterns)) (fitting_places t logs w) [] → length places ≡ 0
    → (ltb w (length t.patterns) && is_explained t logs w) ≡ false
pattern_hidden t logs w places is none = ap (λ (b : Bool). ltb w (length t.patterns) && b) (explained_is t logs w) ∙ hidden (ltb w (length t.patterns)) (fitting_places t logs w) places is none
