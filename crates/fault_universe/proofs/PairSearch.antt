-- What a search in the index of pairs tells of the pairs.
use Rattle.std.proofs.Common.{rules, ◌≡◌, ℕ, ◌+◌, ◌<◌, ◌≤◌, ◌^◌, true, false, List, length, get_or, Ok, Err, Bool, refl, subst, ap, sym, ◌∙◌, inl, inr, arith}
use Rattle.std.specs.Prelude.{map, Contains, All}
use Rattle.std.specs.List.{enumerate_from}
use Rattle.std.specs.List.Sorted.{IsBinarySearchResult, IsNonDecreasingBy}
use Rattle.std.specs.Ordering.{nat_cmp}
use Rattle.std.proofs.lemmas.Bool.{cases_lt, eqb-true, eq-eqb}
use Rattle.std.proofs.lemmas.List.{length-map, get_or-map, get_or_default}
use Rattle.std.proofs.Math.ListN.{get_or-map as get_or-map-whole}
use Rattle.std.proofs.lemmas.List.FromFn.{get_or-enumerate_from, length-enumerate_from}
use Rattle.std.proofs.lemmas.List.Sorted.{searched, Contains-permutation, IsPermutation-sym}
use Rattle.scan_model.specs.declared.parts.Pair.{Pair}
use Rattle.scan_model.specs.declared.pair_index.PairPlace.{PairPlace}
use Rattle.scan_model.specs.PairIndex.{nets_number, placed, places_of, IsPairIndex}
use Rattle.fault_universe.specs.KeptPairs.{no_pair, is_pair}

abbrev pub no_entry : PairPlace
no_entry = record { nets = 0; place = 0 }

abbrev nets : PairPlace → ℕ
nets p = p.nets

-- ---- entries and their pairs

length-places : (pairs : List Pair) → length (places_of pairs) ≡ length pairs
length-places pairs = length-map (enumerate_from 0 pairs) placed ∙ length-enumerate_from 0 pairs

entry_at : (pairs : List Pair) (k : ℕ) (e : PairPlace) (d : Pair) → k < length pairs → get_or (places_of pairs) k e ≡ placed (k, get_or pairs k d)
entry_at pairs k e d lt =
    let there : k < length (enumerate_from 0 pairs) = subst (λ n. k < n) (sym (length-enumerate_from 0 pairs)) lt in
    let from_zero : 0 + k ≡ k = omega arith in
    get_or-map placed (enumerate_from 0 pairs) k (0, d) e there ∙ ap placed (get_or-enumerate_from 0 pairs k (0, d) lt) ∙ ap (λ n. placed (n, get_or pairs k d)) from_zero

-- the entry of a pair is in the index
pub has_entry : (pairs : List Pair) (index : List PairPlace) (k : ℕ) (d : Pair) → IsPairIndex pairs index → k < length pairs → Contains index (placed (k, get_or pairs k d))
has_entry pairs index k d whole lt =
    let e = placed (k, get_or pairs k d) in
    Contains-permutation (places_of pairs) index e whole.entries (k, subst (λ n. k < n) (sym (length-places pairs)) lt, entry_at pairs k e d lt)

-- an entry of the index is that of a pair
pub has_pair : (pairs : List Pair) (index : List PairPlace) (e : PairPlace) → IsPairIndex pairs index → Contains index e → (k : ℕ) × (k < length pairs) × (e ≡ placed (k, get_or pairs k no_pair))
has_pair pairs index e whole there =
    let from = Contains-permutation index (places_of pairs) e (IsPermutation-sym (places_of pairs) index whole.entries) there in
    let lt : from.0 < length pairs = subst (λ n. from.0 < n) (length-places pairs) from.1 in
    (from.0, lt, sym from.2 ∙ entry_at pairs from.0 e no_pair lt)

-- ---- what the search tells

at_numbers : (index : List PairPlace) (i d : ℕ) (e : PairPlace) → i < length index → get_or (map nets index) i d ≡ (get_or index i e).nets
at_numbers index i d e lt = get_or-map nets index i e d lt

-- a search by the nets that finds an entry is one among their numbers
numbers_found : (index : List PairPlace) (key i : ℕ) → i < length index → IsBinarySearchResult (λ y. nat_cmp y.nets key) index (Ok i) → IsBinarySearchResult (λ n. nat_cmp n key) (map nets index) (Ok i)
numbers_found index key i lt found d = ap (λ n. nat_cmp n key) (at_numbers index i d no_entry lt) ∙ found no_entry

rising_numbers : (index : List PairPlace) → IsNonDecreasingBy nets index → (i j : ℕ) → i ≤ j → j < length (map nets index) → get_or (map nets index) i 0 ≤ get_or (map nets index) j 0
rising_numbers index up i j le lt =
    let short : j < length index = subst (λ n. j < n) (length-map index nets) lt in
    rw (at_numbers index i 0 no_entry (omega arith), at_numbers index j 0 no_entry short) (up i j no_entry le short)

pub number_found : (index : List PairPlace) (key i : ℕ) → IsNonDecreasingBy nets index → i < length index → IsBinarySearchResult (λ y. nat_cmp y.nets key) index (Ok i) → (get_or index i no_entry).nets ≡ key
number_found index key i up lt found =
    sym (at_numbers index i 0 no_entry lt) ∙ (searched (map nets index) key (Ok i) (numbers_found index key i lt found) (rising_numbers index up)).1

-- one that finds none is one among their numbers too
numbers_missed : (index : List PairPlace) (key i : ℕ) → i ≤ length index → IsBinarySearchResult (λ y. nat_cmp y.nets key) index (Err i) → IsBinarySearchResult (λ n. nat_cmp n key) (map nets index) (Err i)
numbers_missed index key i le found up =
    let at : (a : ℕ) (d : PairPlace) → get_or (map nets index) a d.nets ≡ (get_or index a d).nets = λ a d. get_or-map-whole nets index a d in
    let point = found (λ a b d lo lt. rw (← at a d, ← at b d) (up a b d.nets lo (subst (λ n. b < n) (sym (length-map index nets)) lt))) in (
      (λ k d low high. ap (λ n. nat_cmp n key) (at_numbers index k d no_entry (omega arith)) ∙ point.0 k no_entry low high),
      (λ k d low high. let short : k < length index = subst (λ n. k < n) (length-map index nets) high in
          ap (λ n. nat_cmp n key) (at_numbers index k d no_entry short) ∙ point.1 k no_entry low short),
    )

pub number_missed : (index : List PairPlace) (key i j : ℕ) → IsNonDecreasingBy nets index → i ≤ length index → IsBinarySearchResult (λ y. nat_cmp y.nets key) index (Err i) → j < length index → (get_or index j no_entry).nets ≡ key → ⊥
number_missed index key i j up le found lt is =
    let told = searched (map nets index) key (Err i) (numbers_missed index key i le found) (rising_numbers index up) in
    let here : get_or (map nets index) j 0 ≡ key = at_numbers index j 0 no_entry lt ∙ is in
    elim (cases_lt j i) [
      | inl below ↦ absurd (omega (arith, told.1 j below, here))
      | inr past ↦ absurd (omega (arith, told.2 j past (subst (λ n. j < n) (sym (length-map index nets)) lt), here))
    ]

-- ---- the pair

-- two nets below 2^32 are told by their number
same_nets : (a b c d : ℕ) → b < 2 ^ 32 → d < 2 ^ 32 → nets_number a b ≡ nets_number c d → (a ≡ c) × (b ≡ d)
same_nets a b c d small few e = (omega arith, omega arith)

pub pair_found : (pairs : List Pair) (index : List PairPlace) (a b i : ℕ) → IsPairIndex pairs index → All (λ p. p.b < 2 ^ 32) pairs → b < 2 ^ 32 → i < length index
    → IsBinarySearchResult (λ y. nat_cmp y.nets (nets_number a b)) index (Ok i) → ((get_or index i no_entry).place < length pairs) × (is_pair a b (get_or pairs (get_or index i no_entry).place no_pair) ≡ true)
pair_found pairs index a b i whole small few lt found =
    let e = get_or index i no_entry in
    let there = has_pair pairs index e whole (i, lt, get_or_default index i e no_entry lt) in
    let k = there.0 in
    let p = get_or pairs k no_pair in
    let is : e ≡ placed (k, p) = there.2 in
    let key : nets_number p.a p.b ≡ nets_number a b = sym (ap nets is) ∙ number_found index (nets_number a b) i whole.rising lt found in
    let same = same_nets p.a p.b a b (small k no_pair there.1) few key in
    let here : is_pair a b p ≡ true = rw (eq-eqb p.a a same.0, eq-eqb p.b b same.1) refl in
    subst (λ n. (n < length pairs) × (is_pair a b (get_or pairs n no_pair) ≡ true)) (sym (ap (λ x. x.place) is)) (there.1, here)

pub pair_missed : (pairs : List Pair) (index : List PairPlace) (a b i : ℕ) → IsPairIndex pairs index → i ≤ length index
    → IsBinarySearchResult (λ y. nat_cmp y.nets (nets_number a b)) index (Err i) → All (λ p. is_pair a b p ≡ false) pairs
pair_missed pairs index a b i whole le found k d lt = by_test (is_pair a b (get_or pairs k d)) refl
  where
    p : Pair
    p = get_or pairs k d

    by_test : (t : Bool) → is_pair a b p ≡ t → is_pair a b p ≡ false
    by_test false e = e
    by_test true e =
        let nets_are : (p.a ≡ a) × (p.b ≡ b) = search (rules, eqb-true) in
        let there = has_entry pairs index k d whole lt in
        let key : (get_or index there.0 no_entry).nets ≡ nets_number a b = ap nets (get_or_default index there.0 no_entry (placed (k, p)) there.1 ∙ there.2) ∙ rw (nets_are.0, nets_are.1) refl in
        absurd (number_missed index (nets_number a b) i there.0 whole.rising le found there.1 key)
