-- Notes that are written again, place by place.
use Rattle.std.proofs.Common.{◌≡◌, ◌⊎◌, ℕ, zero, suc, ◌<◌, List, [], length, set, sym, ap, subst, ◌∙◌, inl, inr, arith}
use Rattle.std.proofs.lemmas.Bool.{cases_eq, eq-eqb, ne_eqb}
use Rattle.std.proofs.lemmas.List.{get_or-set_same, get_or-set_other}
use Rattle.scan_model.specs.declared.fault.Fault.{Fault}
use Rattle.scan_model.specs.ScanTest.{ScanTest}
use Rattle.lane_rows.specs.Lanes.{lane}
use Rattle.fault_effects.specs.FaultModel.{FaultModel}
use Rattle.fault_effects.specs.Tables.{row_at, table_of, put_row}
use Rattle.fault_effects.specs.Walks.{IsFresh, ArePlacesFresh, AreFreshAt, IsNetDone, IsRenoted}

-- ---- rows that are put

-- the table of rows among which one is put
pub put_table : (rows : List (List ℕ)) (place : ℕ) (row : List ℕ) → place < length rows → (q j : ℕ) → put_row (table_of rows) place row q j ≡ table_of (set rows place row) q j
put_table rows place row lt q j = elim (cases_eq q place) [
  | inl same ↦
      let is : row_at (set rows place row) q ≡ row = ap (row_at (set rows place row)) same ∙ get_or-set_same rows place row [] lt in
      rw (eq-eqb q place same) (sym (ap (λ (r : List ℕ). lane r j) is))
  | inr other ↦
      rw (ne_eqb q place other) (sym (ap (λ (r : List ℕ). lane r j) (get_or-set_other rows place q row [] other)))
]

-- each of the first numbers has the one, or some has the other
pub each_or_some : (P Q : ℕ → Type 0) (n : ℕ) → ((k : ℕ) → k < n → P k ⊎ Q k) → ((k : ℕ) → k < n → P k) ⊎ ((k : ℕ) × (k < n) × Q k)
each_or_some P Q zero either = inl (λ k lt. absurd (omega arith))
each_or_some P Q (suc n) either = elim (either n (omega arith)) [
  | inr some ↦ inr (n, omega arith, some)
  | inl last ↦ elim (each_or_some P Q n (λ k lt. either k (omega arith))) [
    | inr found ↦ inr (found.0, omega (arith, found.1), found.2)
    | inl all ↦ inl (λ k lt. elim (cases_eq k n) [
      | inl same ↦ subst P (sym same) last
      | inr other ↦ all k (omega arith)
    ])
  ]
]

-- ---- notes of a fault

module _ (m : FaultModel) (b : ℕ) (f : Fault) where
  pub fresh_kept : (old new : List (List ℕ)) → IsRenoted m b f old new → (q : ℕ) → IsFresh m b f old q → IsFresh m b f new q
  fresh_kept old new renoted q fresh = elim (renoted q) [
    | inl now ↦ now
    | inr same ↦ λ j lt. ap (λ (row : List ℕ). lane row j) same ∙ fresh j lt
  ]

  pub places_kept : (old new : List (List ℕ)) → IsRenoted m b f old new → (k : ℕ) → ArePlacesFresh m b f old k → ArePlacesFresh m b f new k
  places_kept old new renoted k fresh q lt sees = fresh_kept old new renoted q (fresh q lt sees)

  pub net_kept : (t : ScanTest) (old new : List (List ℕ)) → IsRenoted m b f old new → (n : ℕ) → AreFreshAt t m b f old n → AreFreshAt t m b f new n
  net_kept t old new renoted n fresh k lt is = places_kept old new renoted k (fresh k lt is)

  pub renoted_join : (old mid new : List (List ℕ)) → IsRenoted m b f old mid → IsRenoted m b f mid new → IsRenoted m b f old new
  renoted_join old mid new first second q = elim (first q) [
    | inl fresh ↦ inl (fresh_kept mid new second q fresh)
    | inr same ↦ elim (second q) [
      | inl fresh ↦ inl fresh
      | inr too ↦ inr (too ∙ same)
    ]
  ]

  pub done_kept : (t : ScanTest) (h : ℕ) (old new : List (List ℕ)) → IsRenoted m b f old new → (n : ℕ) → IsNetDone t m b f h old n → IsNetDone t m b f h new n
  done_kept t h old new renoted n done = record {
    own = net_kept t old new renoted n done.own;
    below = λ k i lt is at. net_kept t old new renoted _ (done.below k i lt is at);
  }
