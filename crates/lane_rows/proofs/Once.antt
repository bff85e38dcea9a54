-- An order of evaluation has each gate once, so what it counts of the gates is what the circuit has of them.
use Rattle.std.proofs.Common.{◌≡◌, ◌≢◌, ◌⊎◌, ℕ, zero, suc, ◌+◌, ◌<◌, ◌≤◌, Bool, true, false, cond, eqb, ◌&&◌, List, [], ◌∷◌, length, map, get_or, set, refl, sym, ap, ◌∙◌, inl, inr, arith}
use Rattle.std.specs.Prelude.{filter, count_by}
use Rattle.std.specs.List.{list_any, range_with_len, IsDistinct, AllByRecursion}
use Rattle.std.proofs.lemmas.Bool.{cases_Bool, cases_eq, cases_lt, both_ways, eq-eqb, ne_eqb, eqb-true, or_cases, or_left, or_right, and_from}
use Rattle.std.proofs.lemmas.List.{get_or-set_same, get_or-set_other, length-set, length-map, get_or_default}
use Rattle.std.proofs.lemmas.List.FromFn.{length-range_with_len}
use Rattle.std.proofs.lemmas.List.Sums.{length-filter, count_by-le-length}
use Rattle.std.proofs.lemmas.Map.Keys.{IsDistinct-cons}
use Rattle.std.proofs.lemmas.Map.Steps.{length-le_from_distinct_below}
use Rattle.scan_model.specs.Netlist.{Netlist, is_gate, net_numbers}
use Rattle.scan_model.specs.Walks.{IsEvaluationOrder}
use Rattle.scan_model.proofs.FanSweeps.{any_found, any_among}
use Rattle.scan_model.proofs.Orders.{filter_range_at, filter_range_all}

-- the first place of a number
first : List ℕ → ℕ → ℕ
first [] n = 0
first (y ∷ ys) n = cond (eqb n y) 0 (suc (first ys n))

record IsFirst (ys : List ℕ) (n k : ℕ) : Type 0 where
  inside : k < length ys
  is : get_or ys k n ≡ n

first_in : (ys : List ℕ) (n : ℕ) → list_any (eqb n) ys ≡ true → IsFirst ys n (first ys n)
unfolding first
first_in [] n e = absurd cc
first_in (y ∷ ys) n e = elim (cases_eq n y) [
  | inl same ↦ rw (eq-eqb n y same) (record { inside = omega arith; is = sym same })
  | inr other ↦
      let rest = elim (or_cases (eqb n y) (list_any (eqb n) ys) e) as (λ s. list_any (eqb n) ys ≡ true) [ inl here ↦ absurd (other (eqb-true n y here)) | inr later ↦ later ] in
      let deep = first_in ys n rest in
      rw (ne_eqb n y other) (record { inside = omega (arith, deep.inside); is = deep.is })
]

apart_firsts : (ys : List ℕ) (n : ℕ) (xs : List ℕ) → list_any (eqb n) ys ≡ true → ((m : ℕ) → list_any (eqb m) xs ≡ true → list_any (eqb m) ys ≡ true)
    → AllByRecursion (λ m. eqb n m ≡ false) xs → AllByRecursion (λ k. eqb (first ys n) k ≡ false) (map (first ys) xs)
apart_firsts ys n [] in' all apart = tt
apart_firsts ys n (m ∷ xs) in' all apart =
    let here = first_in ys n in' in
    let there = first_in ys m (all m (or_left (eqb m m) (list_any (eqb m) xs) (eq-eqb m m refl))) in
    let differ : first ys n ≢ first ys m = λ same.
    both_ways (eqb n m) apart.0 (eq-eqb n m (sym here.is ∙ get_or_default ys (first ys n) n m here.inside ∙ ap (λ (k : ℕ). get_or ys k m) same ∙ there.is)) in
    (ne_eqb (first ys n) (first ys m) differ, apart_firsts ys n xs in' (λ k is. all k (or_right (eqb k m) (list_any (eqb k) xs) is)) apart.1)

distinct_firsts : (ys xs : List ℕ) → IsDistinct eqb xs → ((m : ℕ) → list_any (eqb m) xs ≡ true → list_any (eqb m) ys ≡ true) → IsDistinct eqb (map (first ys) xs)
unfolding IsDistinct
distinct_firsts ys [] distinct all = tt
distinct_firsts ys (n ∷ xs) distinct all = (
  apart_firsts ys n xs (all n (or_left (eqb n n) (list_any (eqb n) xs) (eq-eqb n n refl))) (λ m is. all m (or_right (eqb m n) (list_any (eqb m) xs) is)) distinct.0,
  distinct_firsts ys xs distinct.1 (λ m is. all m (or_right (eqb m n) (list_any (eqb m) xs) is)),
)

firsts_below : (ys xs : List ℕ) → ((m : ℕ) → list_any (eqb m) xs ≡ true → list_any (eqb m) ys ≡ true) → (q : ℕ) → list_any (eqb q) (map (first ys) xs) ≡ true → q < length ys
firsts_below ys [] all q e = absurd cc
firsts_below ys (n ∷ xs) all q e = elim (or_cases (eqb q (first ys n)) (list_any (eqb q) (map (first ys) xs)) e) [
  | inl here ↦
      let at = first_in ys n (all n (or_left (eqb n n) (list_any (eqb n) xs) (eq-eqb n n refl))) in
      omega (arith, eqb-true q (first ys n) here, at.inside)
  | inr later ↦ firsts_below ys xs (λ m is. all m (or_right (eqb m n) (list_any (eqb m) xs) is)) q later
]

-- different numbers that are all among others are no more than these
pub no_more_than : (xs ys : List ℕ) → IsDistinct eqb xs → ((m : ℕ) → list_any (eqb m) xs ≡ true → list_any (eqb m) ys ≡ true) → length xs ≤ length ys
no_more_than xs ys distinct all =
    omega (arith, length-map xs (first ys), length-le_from_distinct_below (map (first ys) xs) (length ys) (distinct_firsts ys xs distinct all) (firsts_below ys xs all))

-- ---- numbers of a range

all_above : (p : ℕ → Bool) (b a n : ℕ) → b < a → AllByRecursion (λ m. eqb b m ≡ false) (filter p (range_with_len a n))
all_above p b a zero lt = tt
all_above p b a (suc n) lt = elim (cases_Bool (p a)) [
  | inl passes ↦ rw passes (ne_eqb b a (λ e. omega arith), all_above p b (a + 1) n (omega arith))
  | inr fails ↦ rw fails (all_above p b (a + 1) n (omega arith))
]

pub range_distinct : (p : ℕ → Bool) (a n : ℕ) → IsDistinct eqb (filter p (range_with_len a n))
unfolding IsDistinct
range_distinct p a zero = tt
range_distinct p a (suc n) = elim (cases_Bool (p a)) [
  | inl passes ↦ rw passes (all_above p a (a + 1) n (omega arith), range_distinct p (a + 1) n)
  | inr fails ↦ rw fails (range_distinct p (a + 1) n)
]

-- ---- pairwise different numbers

apart_from : (x : ℕ) (xs : List ℕ) → ((j : ℕ) → j < length xs → x ≢ get_or xs j 0) → AllByRecursion (λ y. eqb x y ≡ false) xs
apart_from x [] differ = tt
apart_from x (y ∷ xs) differ = (ne_eqb x y (differ 0 (omega arith)), apart_from x xs (λ j lt. differ (suc j) (omega arith)))

pub distinct_from : (xs : List ℕ) → ((i j : ℕ) → i < j → j < length xs → get_or xs i 0 ≢ get_or xs j 0) → IsDistinct eqb xs
unfolding IsDistinct
distinct_from [] differ = tt
distinct_from (x ∷ xs) differ = (apart_from x xs (λ j lt. differ 0 (suc j) (omega arith) (omega arith)), distinct_from xs (λ i j lt inside. differ (suc i) (suc j) (omega arith) (omega arith)))

apart_filter : (p : ℕ → Bool) (x : ℕ) (xs : List ℕ) → AllByRecursion (λ y. eqb x y ≡ false) xs → AllByRecursion (λ y. eqb x y ≡ false) (filter p xs)
apart_filter p x [] apart = tt
apart_filter p x (y ∷ xs) apart = elim (cases_Bool (p y)) [
  | inl passes ↦ rw passes (apart.0, apart_filter p x xs apart.1)
  | inr fails ↦ rw fails (apart_filter p x xs apart.1)
]

distinct_filter : (p : ℕ → Bool) (xs : List ℕ) → IsDistinct eqb xs → IsDistinct eqb (filter p xs)
unfolding IsDistinct
distinct_filter p [] distinct = tt
distinct_filter p (x ∷ xs) distinct = elim (cases_Bool (p x)) [
  | inl passes ↦ rw passes (apart_filter p x xs distinct.0, distinct_filter p xs distinct.1)
  | inr fails ↦ rw fails (distinct_filter p xs distinct.1)
]

among_filter : (p : ℕ → Bool) (xs : List ℕ) (m : ℕ) → list_any (eqb m) (filter p xs) ≡ true → (list_any (eqb m) xs ≡ true) × (p m ≡ true)
among_filter p [] m e = absurd cc
among_filter p (x ∷ xs) m e = elim (cases_Bool (p x)) [
  | inl passes ↦ elim (or_cases (eqb m x) (list_any (eqb m) (filter p xs)) (rw passes at e)) [
    | inl here ↦ (or_left (eqb m x) (list_any (eqb m) xs) here, ap p (eqb-true m x here) ∙ passes)
    | inr later ↦ let rest = among_filter p xs m later in (or_right (eqb m x) (list_any (eqb m) xs) rest.0, rest.1)
  ]
  | inr fails ↦ let rest = among_filter p xs m (rw fails at e) in (or_right (eqb m x) (list_any (eqb m) xs) rest.0, rest.1)
]

-- ---- an order of evaluation

pub order_short : (c : Netlist) (order : List ℕ) → IsEvaluationOrder c order → length order ≤ length c.nets
order_short c order ordered = omega (arith, ordered.count, count_by-le-length (is_gate c) (net_numbers c), length-range_with_len 0 (length c.nets))

module _ (c : Netlist) (order : List ℕ) (ordered : IsEvaluationOrder c order) where
  abbrev gates : List ℕ
  gates = filter (is_gate c) (net_numbers c)

  listed : (xs : List ℕ) (k n : ℕ) → k < length xs → get_or xs k 0 ≡ n → list_any (eqb n) xs ≡ true
  listed xs k n lt is = any_among (eqb n) xs n (k, lt, get_or_default xs k n 0 lt ∙ is) (eq-eqb n n refl)

  gate_among : (n : ℕ) → list_any (eqb n) gates ≡ true → (n < length c.nets) × (is_gate c n ≡ true)
  gate_among n e =
      let found = any_found (eqb n) gates e in
      let at = found.1 in
      let facts = filter_range_at (is_gate c) 0 (length c.nets) at.0 found.0 at.1 in
      let is : get_or gates at.0 found.0 ≡ n = at.2 ∙ sym (eqb-true n found.0 found.2) in
      (omega (arith, facts.1, is), ap (is_gate c) (sym is) ∙ facts.2)

  -- no gate stands twice
  pub once : (i j : ℕ) → i < j → j < length order → get_or order i 0 ≢ get_or order j 0
  once i j lt inside same =
      let others = set order j (length c.nets) in
      let marked : get_or others j 0 ≡ length c.nets = get_or-set_same order j (length c.nets) 0 inside in
      let away : AllByRecursion (λ m. eqb (length c.nets) m ≡ false) gates = apart_from (length c.nets) gates (λ k k_in e. omega (arith, (filter_range_at (is_gate c) 0 (length c.nets) k 0 k_in).1, e)) in
      let distinct : IsDistinct eqb (length c.nets ∷ gates) = IsDistinct-cons eqb (length c.nets) gates away (range_distinct (is_gate c) 0 (length c.nets)) in
      let len : length others ≡ length order = length-set order j (length c.nets) in
      let few : length (length c.nets ∷ gates) ≤ length others = no_more_than (length c.nets ∷ gates) others distinct (λ m e. elim (or_cases (eqb m (length c.nets)) (list_any (eqb m) gates) e) [
        | inl end ↦ listed others j m (omega arith) (marked ∙ sym (eqb-true m (length c.nets) end))
        | inr gate ↦
            let facts = gate_among m gate in
            let at = ordered.all m facts.0 facts.1 in
            let is : get_or order at.0 0 ≡ m = get_or_default order at.0 0 m at.1 ∙ at.2 in
            elim (cases_eq at.0 j) [
              | inl here ↦ listed others i m (omega arith) (get_or-set_other order j i (length c.nets) 0 (λ e'. omega arith) ∙ same ∙ ap (λ (k : ℕ). get_or order k 0) (sym here) ∙ is)
              | inr other ↦ listed others at.0 m (omega (arith, at.1)) (get_or-set_other order j at.0 (length c.nets) 0 other ∙ is)
            ]
      ]) in
      omega (arith, few, length-filter (is_gate c) (net_numbers c), ordered.count)

  pub places_agree : (i j : ℕ) → i < length order → j < length order → get_or order i 0 ≡ get_or order j 0 → i ≡ j
  places_agree i j i_in j_in same = elim (cases_eq i j) [
    | inl e ↦ e
    | inr other ↦ elim (sides i j other) [ inl less ↦ absurd (once i j less j_in same) | inr more ↦ absurd (once j i more i_in (sym same)) ]
  ]
    where
      sides : (i j : ℕ) → i ≢ j → (i < j) ⊎ (j < i)
      sides i j other = elim (cases_lt i j) [ inl less ↦ inl less | inr more ↦ inr (omega arith) ]

  -- how many gates of the order pass is at most how many gates of the circuit do
  pub counted_once : (p q : ℕ → Bool) → ((n : ℕ) → is_gate c n ≡ true → p n ≡ true → q n ≡ true) → count_by p order ≤ length (filter (λ n. is_gate c n && q n) (net_numbers c))
  counted_once p q to = omega (
    arith,
    length-filter p order,
    no_more_than (filter p order) (filter (λ n. is_gate c n && q n) (net_numbers c)) (distinct_filter p order (distinct_from order once)) (λ m e.
        let parts = among_filter p order m e in
        let found = any_found (eqb m) order parts.0 in
        let at = found.1 in
        let is : get_or order at.0 0 ≡ m = get_or_default order at.0 0 found.0 at.1 ∙ at.2 ∙ sym (eqb-true m found.0 found.2) in
        let gate = ordered.gates at.0 at.1 in
        let is_gate_m : is_gate c m ≡ true = ap (is_gate c) (sym is) ∙ gate.1 in
        any_among (eqb m) (filter (λ n. is_gate c n && q n) (net_numbers c)) m
        (filter_range_all (λ n. is_gate c n && q n) 0 (length c.nets) m (omega arith) (omega (arith, gate.0, is)) (and_from (is_gate c m) (q m) is_gate_m (to m is_gate_m parts.1)))
        (eq-eqb m m refl)),
  )
