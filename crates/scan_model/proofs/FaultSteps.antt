-- The first fault of a text, as a loop over its lines finds it.
use Rattle.std.proofs.Common.{◌≡◌, ℕ, zero, suc, ◌+◌, ◌-◌, ◌<◌, ◌≤◌, Option, Some, None, option_map, unwrap_or, refl, sym, ap, ◌∙◌, arith, inl, inr}
use Rattle.std.proofs.lemmas.Bool.{cases_lt}
use Rattle.scan_model.specs.TextFaults.{or_else, fault_from}

module _ (rule : ℕ → Option ℕ) (n i : ℕ) where
  -- a line without a fault
  pub fault_goes_on : (total : Option (ℕ × ℕ)) → i < n → rule i ≡ None → fault_from rule i (n - i) ≡ total → fault_from rule (i + 1) (n - (i + 1)) ≡ total
  fault_goes_on total lt none so_far =
      let k : n - i ≡ suc (n - (i + 1)) = omega arith in
      let one : fault_from rule i (n - i) ≡ fault_from rule (i + 1) (n - (i + 1)) = rw (k, none) refl in
      sym one ∙ so_far

  -- a line with a fault
  pub fault_is_here : (total : Option (ℕ × ℕ)) (r : ℕ) → i < n → rule i ≡ Some r → fault_from rule i (n - i) ≡ total → total ≡ Some (i + 1, r)
  fault_is_here total r lt some so_far =
      let k : n - i ≡ suc (n - (i + 1)) = omega arith in
      let one : fault_from rule i (n - i) ≡ Some (i + 1, r) = rw (k, some) refl in
      sym so_far ∙ one

  -- past the last line
  pub fault_is_none : (total : Option (ℕ × ℕ)) → n ≤ i → fault_from rule i (n - i) ≡ total → total ≡ None
  fault_is_none total le so_far =
      let k : n - i ≡ 0 = omega arith in
      let one : fault_from rule i (n - i) ≡ None = rw k refl in
      sym so_far ∙ one

module _ (rule : ℕ → Option ℕ) where
  -- no line has a fault
  pub fault_from_none : (j n : ℕ) → ((k : ℕ) → j ≤ k → k < j + n → rule k ≡ None) → fault_from rule j n ≡ None
  fault_from_none j zero none = refl
  fault_from_none j (suc n) none =
      rw (none j (omega arith) (omega arith)) (fault_from_none (j + 1) n (λ k low high. none k (omega arith) (omega arith)))

  -- the first line with one
  pub fault_from_some : (j n i r : ℕ) → j ≤ i → i < j + n → rule i ≡ Some r → ((k : ℕ) → j ≤ k → k < i → rule k ≡ None) → fault_from rule j n ≡ Some (i + 1, r)
  fault_from_some j zero i r low high some none = absurd (omega arith)
  fault_from_some j (suc n) i r low high some none =
      elim (cases_lt j i) [
        | inl lt ↦ rw (none j (omega arith) lt) (fault_from_some (j + 1) n i r (omega arith) (omega arith) some (λ k low' high'. none k (omega arith) high'))
        | inr le ↦ let same : j ≡ i = omega arith in let here : rule j ≡ Some r = rw same some in rw here (ap (λ x. Some (x + 1, r)) same)
      ]

-- ---- what a first fault says

-- the line i is below n, breaks r as its lowest rule, and no line before it breaks any
pub record IsFirst (rule : ℕ → Option ℕ) (low n i r : ℕ) : Type 0 where
  pub from : low ≤ i
  pub below : i < low + n
  pub here : rule i ≡ Some r
  pub before : (k : ℕ) → low ≤ k → k < i → rule k ≡ None

-- a first fault that was found is one, and it is counted from 1
pub fault_from-found : (rule : ℕ → Option ℕ) (j n : ℕ) (line r : ℕ) → fault_from rule j n ≡ Some (line, r) → (i : ℕ) × (line ≡ i + 1) × IsFirst rule j n i r
fault_from-found rule j zero line r e = absurd cc
fault_from-found rule j (suc n) line r e = go (rule j) refl (fault_from-found rule (j + 1) n line r) e
  where
    go : (o : Option ℕ) → rule j ≡ o → (fault_from rule (j + 1) n ≡ Some (line, r) → (i : ℕ) × (line ≡ i + 1) × IsFirst rule (j + 1) n i r)
        → fault_from rule j (suc n) ≡ Some (line, r) → (i : ℕ) × (line ≡ i + 1) × IsFirst rule j (suc n) i r
    go (Some q) h more found =
        let same : or_else (option_map (λ x. (j + 1, x)) (Some q)) (fault_from rule (j + 1) n) ≡ Some (line, r) = rw h at found in
        let at : (line ≡ j + 1) × (q ≡ r) = (sym (ap (λ (o : Option (ℕ × ℕ)). (unwrap_or {T = ℕ × ℕ} o (0, 0)).0) same), ap (λ (o : Option (ℕ × ℕ)). (unwrap_or {T = ℕ × ℕ} o (0, 0)).1) same) in
        (j, at.0, record { from = omega arith; below = omega arith; here = h ∙ ap Some at.1; before = λ k low high. absurd (omega arith) })
    go None h more found =
        let rest = more (rw h at found) in (
          rest.0,
          rest.1,
          record {
            from = omega (arith, rest.2.from);
            below = omega (arith, rest.2.below);
            here = rest.2.here;
            before = λ k low high. elim (cases_lt j k) [ inl lt ↦ rest.2.before k (omega arith) high | inr le ↦ let same : k ≡ j = omega arith in rw same h ];
          },
        )

-- where none was found, no line breaks a rule
pub fault_from-clean : (rule : ℕ → Option ℕ) (j n : ℕ) → fault_from rule j n ≡ None → (k : ℕ) → j ≤ k → k < j + n → rule k ≡ None
fault_from-clean rule j zero e k low high = absurd (omega arith)
fault_from-clean rule j (suc n) e k low high = go (rule j) refl (λ h. fault_from-clean rule (j + 1) n h k)
  where
    go : (o : Option ℕ) → rule j ≡ o → (fault_from rule (j + 1) n ≡ None → j + 1 ≤ k → k < (j + 1) + n → rule k ≡ None) → rule k ≡ None
    go (Some q) h more = absurd (let bad : or_else (option_map (λ x. (j + 1, x)) (Some q)) (fault_from rule (j + 1) n) ≡ None = rw h at e in cc)
    go None h more = elim (cases_lt j k) [ inl lt ↦ more (rw h at e) (omega arith) (omega arith) | inr le ↦ let same : k ≡ j = omega arith in rw same h ]
