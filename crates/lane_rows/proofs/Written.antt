-- Lists that a loop writes place by place.
use Rattle.std.proofs.Common.{◌≡◌, ◌≢◌, ℕ, ◌+◌, ◌<◌, Bool, true, false, List, [], ◌∷◌, ◌++◌, length, get_or, set, sym, ap, ◌∙◌, inl, inr, arith}
use Rattle.std.specs.Prelude.{All}
use Rattle.std.proofs.lemmas.Bool.{cases_eq, cases_lt}
use Rattle.std.proofs.lemmas.List.{get_or-set_same, get_or-set_other, get_or_push, get_or_append_left, length_push, length-set}
use Rattle.scan_model.specs.Marks.{is_marked}

-- one more net gets a mark
pub marked_so_far : (marks : List Bool) (nets : List ℕ) (k : ℕ) → get_or nets k 0 < length marks → ((i : ℕ) → i < k → is_marked marks (get_or nets i 0) ≡ true)
    → (i : ℕ) → i < k + 1 → is_marked (set marks (get_or nets k 0) true) (get_or nets i 0) ≡ true
marked_so_far marks nets k inside so_far i lt =
    let net = get_or nets k 0 in
    let here : is_marked (set marks net true) net ≡ true = get_or-set_same marks net true false inside in
    elim (cases_eq i k) [
      | inl last ↦ ap (λ (m : ℕ). is_marked (set marks net true) (get_or nets m 0)) last ∙ here
      | inr before ↦ elim (cases_eq (get_or nets i 0) net) [
        | inl same ↦ ap (is_marked (set marks net true)) same ∙ here
        | inr other ↦ get_or-set_other marks net (get_or nets i 0) true false other ∙ so_far i (omega (arith, before))
      ]
    ]

-- one more gate gets its place
module _ (places order : List ℕ) (k : ℕ) (inside : get_or order k 0 < length places) where
  abbrev placed : List ℕ
  placed = set places (get_or order k 0) k

  pub placed_so_far : (marked : ℕ → Bool) → ((i : ℕ) → i < k → get_or order i 0 ≢ get_or order k 0) → ((i : ℕ) → i < k → marked (get_or order i 0) ≡ true → get_or places (get_or order i 0) 0 ≡ i)
      → (i : ℕ) → i < k + 1 → marked (get_or order i 0) ≡ true → get_or placed (get_or order i 0) 0 ≡ i
  placed_so_far marked once so_far i lt live = elim (cases_eq i k) [
    | inl last ↦ ap (λ (m : ℕ). get_or placed (get_or order m 0) 0) last ∙ get_or-set_same places (get_or order k 0) k 0 inside ∙ sym last
    | inr before ↦ let lower : i < k = omega (arith, before) in get_or-set_other places (get_or order k 0) (get_or order i 0) k 0 (once i lower) ∙ so_far i lower live
  ]

  pub only_placed : ((n : ℕ) → n < length places → get_or places n 0 < length order → get_or order (get_or places n 0) 0 ≡ n)
      → (n : ℕ) → n < length placed → get_or placed n 0 < length order → get_or order (get_or placed n 0) 0 ≡ n
  only_placed only n lt live = elim (cases_eq n (get_or order k 0)) [
    | inl here ↦ ap (λ (m : ℕ). get_or order (get_or placed m 0) 0) here ∙ ap (λ (m : ℕ). get_or order m 0) (get_or-set_same places (get_or order k 0) k 0 inside) ∙ sym here
    | inr other ↦
        let stays : get_or placed n 0 ≡ get_or places n 0 = get_or-set_other places (get_or order k 0) n k 0 other in
        ap (λ (m : ℕ). get_or order m 0) stays ∙ only n (omega (arith, lt, length-set places (get_or order k 0) k)) (omega (arith, live, stays))
  ]

-- one number more at the end, which lies below the bound too
pub one_below : (xs : List ℕ) (x bound : ℕ) → x < bound → All (λ y. y < bound) xs → All (λ y. y < bound) (xs ++ x ∷ [])
one_below xs x bound small all i d lt = elim (cases_lt i (length xs)) [
  | inl inside ↦ rw (get_or_append_left xs (x ∷ []) d i inside) (all i d inside)
  | inr past ↦ rw (get_or_push xs x d i (omega (arith, length_push xs x))) small
]
