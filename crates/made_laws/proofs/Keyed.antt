-- Names that are numbered one after another: which of them is a name, and at which place.
use Rattle.std.proofs.Common.{◌≡◌, ℕ, suc, ◌+◌, ◌<◌, ◌≤◌, Bool, true, false, not, ◌||◌, cond, List, [], ◌∷◌, ◌++◌, length, get_or, sym, ap, subst, ◌∙◌, inl, inr, arith}
use Rattle.std.specs.List.{AllByRecursion, IsDistinct}
use Rattle.std.specs.Str.{bytes_eq}
use Rattle.std.specs.Cmp.Lexicographic.{bytes_decides}
use Rattle.std.proofs.lemmas.Bool.{cases_Bool}
use Rattle.std.proofs.lemmas.List.Sums.{passes_at_first}
use Rattle.scan_model.specs.Words.{has_word}
use Rattle.scan_model.specs.NetlistText.{net_number}
use Rattle.bench_reader.proofs.NamesDiffer.{number_in_range}
use Rattle.made_laws.proofs.Plans.{AreKeyed}

same_word : (w n : List ℕ) → bytes_eq w n ≡ true → w ≡ n
same_word w n e = (bytes_decides w n).0 e

module _ (key : List ℕ → ℕ) where
  pub keyed_append : (m : ℕ) (xs ys : List (List ℕ)) → AreKeyed key m xs → AreKeyed key (m + length xs) ys → AreKeyed key m (xs ++ ys)
  keyed_append m [] ys a b = let e : m + 0 ≡ m = omega arith in subst (λ (k : ℕ). AreKeyed key k ys) e b
  keyed_append m (x ∷ xs) ys a b =
      let e : m + suc (length xs) ≡ (m + 1) + length xs = omega arith in
      (a.0, keyed_append (m + 1) xs ys a.1 (subst (λ (k : ℕ). AreKeyed key k ys) e b))

  -- the number of one of them
  pub keyed_within : (m : ℕ) (names : List (List ℕ)) (w : List ℕ) → AreKeyed key m names → has_word names w ≡ true → (m ≤ key w) × (key w < m + length names)
  keyed_within m [] w keyed there = absurd cc
  keyed_within m (n ∷ ns) w keyed there = elim (cases_Bool (bytes_eq w n)) [
    | inl same ↦ let e : key w ≡ m = ap key (same_word w n same) ∙ keyed.0 in (omega arith, omega arith)
    | inr other ↦ let rest = keyed_within (m + 1) ns w keyed.1 (ap (λ b. b || has_word ns w) (sym other) ∙ there) in (omega (arith, rest.0), omega (arith, rest.1))
  ]

  -- a name with a later number isn't among them
  pub keyed_new : (m : ℕ) (names : List (List ℕ)) (w : List ℕ) → AreKeyed key m names → m + length names ≤ key w → has_word names w ≡ false
  keyed_new m names w keyed past = elim (cases_Bool (has_word names w)) [
    | inl there ↦ absurd (omega (arith, (keyed_within m names w keyed there).1))
    | inr new ↦ new
  ]

  pub keyed_place : (m : ℕ) (names : List (List ℕ)) (w : List ℕ) → AreKeyed key m names → has_word names w ≡ true → m + net_number names w ≡ key w
  keyed_place m [] w keyed there = absurd cc
  keyed_place m (n ∷ ns) w keyed there = elim (cases_Bool (bytes_eq w n)) [
    | inl same ↦ let e : key w ≡ m = ap key (same_word w n same) ∙ keyed.0 in
        let at : net_number (n ∷ ns) w ≡ 0 = ap (λ (b : Bool). cond (not b) (1 + net_number ns w) 0) same in omega arith
    | inr other ↦
        let at : net_number (n ∷ ns) w ≡ 1 + net_number ns w = ap (λ (b : Bool). cond (not b) (1 + net_number ns w) 0) other in
        let rest = keyed_place (m + 1) ns w keyed.1 (ap (λ b. b || has_word ns w) (sym other) ∙ there) in omega arith
  ]

  apart : (m : ℕ) (n : List ℕ) (names : List (List ℕ)) → key n < m → AreKeyed key m names → AllByRecursion (λ y. bytes_eq n y ≡ false) names
  apart m n [] lt keyed = tt
  apart m n (y ∷ ys) lt keyed = (
    elim (cases_Bool (bytes_eq n y)) [
      | inl same ↦ absurd (let e : key n ≡ m = ap key (same_word n y same) ∙ keyed.0 in omega arith)
      | inr other ↦ other
    ],
    apart (m + 1) n ys (omega arith) keyed.1,
  )

  -- no two of them are one name
  pub keyed_differ : (m : ℕ) (names : List (List ℕ)) → AreKeyed key m names → IsDistinct bytes_eq names
  unfolding IsDistinct
  keyed_differ m [] keyed = tt
  keyed_differ m (n ∷ ns) keyed = (apart (m + 1) n ns (omega (arith, keyed.0)) keyed.1, keyed_differ (m + 1) ns keyed.1)

-- the name at the place of a name that is there
pub name_at : (names : List (List ℕ)) (w : List ℕ) → has_word names w ≡ true → get_or names (net_number names w) [] ≡ w
name_at names w there = sym ((bytes_decides w (get_or names (net_number names w) [])).0 (passes_at_first (bytes_eq w) names [] (number_in_range names w there)))
