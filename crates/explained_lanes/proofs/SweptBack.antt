-- Which nets lead to one of several, as a sweep back along an order of evaluation finds them.
use Rattle.std.proofs.Common.{◌≡◌, ◌⊎◌, ℕ, ◌+◌, ◌<◌, Bool, true, false, eqb, ◌||◌, ◌&&◌, List, length, get_or, refl, sym, ap, ◌∙◌, inl, inr, arith}
use Rattle.std.specs.Prelude.{Contains}
use Rattle.std.specs.List.{list_any}
use Rattle.std.proofs.lemmas.Bool.{cases_Bool, cases_lt, both_ways, eq-eqb, eqb-true, or_cases, or_left, or_right, and_parts, and_from}
use Rattle.std.proofs.lemmas.List.{get_or_default}
use Rattle.scan_model.specs.Netlist.{Netlist, IsNetlist, reads, is_gate, net_numbers}
use Rattle.scan_model.specs.Walks.{IsEvaluationOrder}
use Rattle.scan_model.specs.Cone.{in_fan_in}
use Rattle.scan_model.proofs.Along.{in_front}
use Rattle.scan_model.proofs.FanSweeps.{any_found, any_among, reads_in_range, in_own, same_answer}
use Rattle.scan_model.proofs.FanSweeps as sweeps
use Rattle.explained_lanes.proofs.Ranges.{any_at, any_there}

-- with k gates still to come, the marks are right but for what lies behind these, where the marks begin at the targets
pub record IsSweptBack (c : Netlist) (order : List ℕ) (targets : ℕ → Bool) (k : ℕ) (marked : ℕ → Bool) : Type 0 where
  pub sound : (m : ℕ) → m < length c.nets → marked m ≡ true → (n : ℕ) × (n < length c.nets) × (targets n ≡ true) × (in_fan_in c m n ≡ true)
  pub reach : (n m : ℕ) → n < length c.nets → targets n ≡ true → in_fan_in c m n ≡ true → (marked m ≡ true) ⊎ ((i : ℕ) × (i < k) × (marked (get_or order i 0) ≡ true) × (in_fan_in c m (get_or order i 0) ≡ true))

module _ (c : Netlist) (order : List ℕ) (sound : IsNetlist c) (ordered : IsEvaluationOrder c order) where
  leaf_is : (m n : ℕ) → n < length c.nets → is_gate c n ≡ false → in_fan_in c m n ≡ true → n ≡ m
  leaf_is m n lt leaf in' = elim (sweeps.in_cases c order sound ordered m n lt in') [ inl same ↦ same | inr read ↦ absurd (both_ways (is_gate c n) leaf read.0) ]

  pub swept_back_none : (targets : ℕ → Bool) → IsSweptBack c order targets (length order) targets
  swept_back_none targets = record {
    sound = λ m lt e. (m, lt, e, in_own c m);
    reach = λ n m lt target inside. elim (cases_Bool (is_gate c n)) [
      | inl gate ↦
          let at = ordered.all n lt gate in
          let same : get_or order at.0 0 ≡ n = get_or_default order at.0 0 n at.1 ∙ at.2 in
          inr (at.0, at.1, ap targets same ∙ target, ap (in_fan_in c m) same ∙ inside)
      | inr leaf ↦ inl (ap targets (sym (leaf_is m n lt leaf inside)) ∙ target)
    ];
  }

  pub swept_back_more : (targets : ℕ → Bool) (k : ℕ) (old new : ℕ → Bool) → k < length order → IsSweptBack c order targets (k + 1) old
      → ((m : ℕ) → new m ≡ (old m || (old (get_or order k 0) && list_any (λ h. eqb m h) (reads c (get_or order k 0))))) → IsSweptBack c order targets k new
  swept_back_more targets k old new lt swept is =
      let g = get_or order k 0 in
      let gate = ordered.gates k lt in
      let keeps : (m : ℕ) → old m ≡ true → new m ≡ true = λ m e. is m ∙ or_left (old m) (old g && list_any (λ h. eqb m h) (reads c g)) e in
      let marks : (r : ℕ) → old g ≡ true → Contains (reads c g) r → new r ≡ true = λ r marked read.
      is r ∙ or_right (old r) (old g && list_any (λ h. eqb r h) (reads c g)) (and_from (old g) (list_any (λ h. eqb r h) (reads c g)) marked (any_among (λ h. eqb r h) (reads c g) r read (eq-eqb r r refl))) in
      record {
        sound = λ m in_range e. elim (or_cases (old m) (old g && list_any (λ h. eqb m h) (reads c g)) (sym (is m) ∙ e)) [
          | inl before ↦ swept.sound m in_range before
          | inr now ↦
              let both = and_parts (old g) (list_any (λ h. eqb m h) (reads c g)) now in
              let r = any_found (λ h. eqb m h) (reads c g) both.1 in
              let same : m ≡ r.0 = eqb-true m r.0 r.2 in
              let target = swept.sound g gate.0 both.0 in
              (target.0, target.1, target.2, ap (λ x. in_fan_in c x target.0) same ∙ sweeps.read_of_in c order sound ordered g r.0 target.0 target.1 gate.1 r.1 target.3)
        ];
        reach = λ n m n_lt target inside. elim (swept.reach n m n_lt target inside) [
          | inl marked ↦ inl (keeps m marked)
          | inr way ↦ elim (cases_lt way.0 k) [
            | inl before ↦ inr (way.0, before, keeps (get_or order way.0 0) way.2, way.3)
            | inr past ↦
                let at : way.0 ≡ k = omega (arith, way.1) in
                let marked : old g ≡ true = ap (λ i. old (get_or order i 0)) (sym at) ∙ way.2 in
                let within : in_fan_in c m g ≡ true = ap (λ i. in_fan_in c m (get_or order i 0)) (sym at) ∙ way.3 in
                elim (sweeps.in_cases c order sound ordered m g gate.0 within) [
                  | inl same ↦ inl (keeps m (ap old (sym same) ∙ marked))
                  | inr read ↦
                      let r = read.1 in
                      elim (cases_Bool (is_gate c r.0)) [
                        | inl inner ↦
                            let front = in_front order k r.0 (omega arith) (ordered.after_read k r.0 lt r.1 inner) in
                            inr (front.0, front.1, ap new front.2 ∙ marks r.0 marked r.1, ap (in_fan_in c m) front.2 ∙ r.2)
                        | inr leaf ↦ inl (ap new (sym (leaf_is m r.0 (reads_in_range c g r.0 sound gate.0 r.1) leaf r.2)) ∙ marks r.0 marked r.1)
                      ]
                ]
          ]
        ];
      }

  pub swept_back_all : (targets marked : ℕ → Bool) → IsSweptBack c order targets 0 marked → (m : ℕ) → m < length c.nets → marked m ≡ list_any (λ n. targets n && in_fan_in c m n) (net_numbers c)
  swept_back_all targets marked swept m lt = same_answer (marked m) (list_any (λ n. targets n && in_fan_in c m n) (net_numbers c))
      (λ e. let t = swept.sound m lt e in any_at (λ n. targets n && in_fan_in c m n) (length c.nets) t.0 t.1 (and_from (targets t.0) (in_fan_in c m t.0) t.2 t.3))
      (λ e.
      let r = any_there (λ n. targets n && in_fan_in c m n) (length c.nets) e in
      let both = and_parts (targets r.0) (in_fan_in c m r.0) r.2 in
      elim (swept.reach r.0 m r.1 both.0 both.1) [
        | inl marked ↦ marked
        | inr way ↦ absurd (omega (arith, way.1))
      ])
