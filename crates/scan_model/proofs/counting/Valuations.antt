-- Valuations that meet the equations of a circuit agree outside the cones of the nets at which the equations differ.
use Rattle.std.proofs.Common.{◌≡◌, ℕ, zero, suc, ◌<◌, ◌≤◌, Bool, true, false, List, length, get_or, refl, sym, ap, ◌∙◌, inl, inr, arith}
use Rattle.std.specs.Prelude.{Contains}
use Rattle.std.proofs.lemmas.Bool.{cases_Bool, cases_eq, both_ways, eq-eqb, ne_eqb}
use Rattle.std.proofs.lemmas.List.{get_or_default}
use Rattle.scan_model.specs.declared.values.Tri.{Tri}
use Rattle.scan_model.specs.declared.values.Tri.TheVariants.{Unknown}
use Rattle.scan_model.specs.Values.{IsAtLeast}
use Rattle.scan_model.specs.Netlist.{Netlist, IsNetlist, reads, is_gate, driver_of}
use Rattle.scan_model.specs.Walks.{IsEvaluationOrder}
use Rattle.scan_model.specs.Cone.{in_fan_in}
use Rattle.scan_model.specs.NetValue.{Forced, net_node, values_of, nothing_forced}
use Rattle.scan_model.proofs.Along.{in_front, along_related}
use Rattle.scan_model.proofs.NetValues.{values_of-is, net_node_local}
use Rattle.scan_model.proofs.FanSweeps.{reads_in_range, in_own}
use Rattle.scan_model.proofs.FanSweeps as sweeps
use Rattle.scan_model.proofs.Definite.{IsAtLeast-refl, driven-at_least}
use Rattle.scan_model.specs.Force.{force}

-- each net has the value of its node
abbrev pub IsValuation : Netlist → (ℕ → Tri) → Forced → (ℕ → Tri) → Type 0
IsValuation c source forced f = (n : ℕ) → n < length c.nets → f n ≡ net_node c source forced n f

module _ (c : Netlist) (order : List ℕ) (sound : IsNetlist c) (ordered : IsEvaluationOrder c order) where
  module _ (s r : ℕ → Tri) (F G : Forced) (differ : ℕ → Bool) (f g : ℕ → Tri) (left : IsValuation c s F f) (right : IsValuation c r G g)
      (same : (n : ℕ) → n < length c.nets → differ n ≡ false → (u : ℕ → Tri) → net_node c s F n u ≡ net_node c r G n u) where
    -- no net at which the equations differ leads here
    abbrev IsApart : ℕ → Type 0
    IsApart n = (m : ℕ) → differ m ≡ true → in_fan_in c m n ≡ false

    not_here : (n : ℕ) → IsApart n → differ n ≡ false
    not_here n apart = elim (cases_Bool (differ n)) [
      | inl hit ↦ absurd (both_ways (in_fan_in c n n) (apart n hit) (in_own c n))
      | inr miss ↦ miss
    ]

    apart_read : (n m : ℕ) → n < length c.nets → is_gate c n ≡ true → Contains (reads c n) m → IsApart n → IsApart m
    apart_read n m lt gate read apart d hit = elim (cases_Bool (in_fan_in c d m)) [
      | inl in' ↦ absurd (both_ways (in_fan_in c d n) (apart d hit) (sweeps.in_of_read c order sound ordered d n m lt gate read in'))
      | inr out ↦ out
    ]

    step : (n : ℕ) → n < length c.nets → IsApart n → ((m : ℕ) → is_gate c n ≡ true → Contains (reads c n) m → f m ≡ g m) → f n ≡ g n
    step n lt apart reads_agree =
        left n lt
        ∙ same n lt (not_here n apart) f
        ∙ net_node_local c r G n f g reads_agree
        ∙ sym (right n lt)

    leaf_agrees : (n : ℕ) → n < length c.nets → is_gate c n ≡ false → IsApart n → f n ≡ g n
    leaf_agrees n lt leaf apart = step n lt apart (λ m gate read. absurd (both_ways (is_gate c n) leaf gate))

    before_agree : (k i : ℕ) → k ≤ length order → i < k → IsApart (get_or order i 0) → f (get_or order i 0) ≡ g (get_or order i 0)
    before_agree zero i le lt apart = absurd (omega arith)
    before_agree (suc k) i le lt apart =
        let n = get_or order i 0 in
        let here = ordered.gates i (omega arith) in
        step n here.0 apart (λ m gate read. elim (cases_Bool (is_gate c m)) [
          | inl inner ↦
              let at = in_front order i m (omega arith) (ordered.after_read i m (omega arith) read inner) in
              let apart_m : IsApart (get_or order at.0 0) = λ d hit. ap (in_fan_in c d) at.2 ∙ apart_read n m here.0 gate read apart d hit in
              ap f (sym at.2) ∙ before_agree k at.0 (omega arith) (omega (arith, at.1)) apart_m ∙ ap g at.2
          | inr leaf ↦ leaf_agrees m (reads_in_range c n m sound here.0 read) leaf (apart_read n m here.0 gate read apart)
        ])

    pub agree_apart : (n : ℕ) → n < length c.nets → IsApart n → f n ≡ g n
    agree_apart n lt apart = elim (cases_Bool (is_gate c n)) [
      | inl gate ↦
          let at = ordered.all n lt gate in
          let e : get_or order at.0 0 ≡ n = get_or_default order at.0 0 n at.1 ∙ at.2 in
          ap f (sym e) ∙ before_agree (length order) at.0 (omega arith) at.1 (λ d hit. ap (in_fan_in c d) e ∙ apart d hit) ∙ ap g e
      | inr leaf ↦ leaf_agrees n lt leaf apart
    ]

  pub values_meet : (s : ℕ → Tri) (F : Forced) → IsValuation c s F (values_of c s F)
  values_meet s F n lt = values_of-is c order s F ordered n lt

  -- what meets the equations is the values
  pub valuation_is : (s : ℕ → Tri) (F : Forced) (f : ℕ → Tri) → IsValuation c s F f → (n : ℕ) → n < length c.nets → f n ≡ values_of c s F n
  valuation_is s F f meets n lt = agree_apart s s F F (λ m. false) f (values_of c s F) meets (values_meet s F) (λ m in' no u. refl) n lt (λ m hit. absurd cc)

  -- a net that is forced to its own value changes nothing
  pub own_force : (s : ℕ → Tri) (n m : ℕ) → m < length c.nets → values_of c s nothing_forced m ≡ values_of c s (force n (values_of c s nothing_forced n)) m
  own_force s n m lt =
      let V = values_of c s nothing_forced in
      valuation_is s (force n (V n)) V (λ k in'. elim (cases_eq k n) [
        | inl is ↦ rw (eq-eqb k n is) (ap V is)
        | inr other ↦ rw (ne_eqb k n other) (values_of-is c order s nothing_forced ordered k in')
      ]) m lt

  -- more definite forced, more definite everywhere
  pub force-at_least : (s : ℕ → Tri) (n : ℕ) (v w : Tri) → IsAtLeast v w → (m : ℕ) → IsAtLeast (values_of c s (force n v) m) (values_of c s (force n w) m)
  unfolding values_of
  force-at_least s n v w more m = along_related (λ k a b. IsAtLeast a b) Unknown Unknown (net_node c s (force n v)) (net_node c s (force n w)) (λ k. tt)
      (λ k u x h. one k u x h) (suc (length c.nets)) m
    where
      one : (k : ℕ) (u x : ℕ → Tri) → ((j : ℕ) → IsAtLeast (u j) (x j)) → IsAtLeast (net_node c s (force n v) k u) (net_node c s (force n w) k x)
      one k u x h = elim (cases_eq k n) [
        | inl is ↦ rw (eq-eqb k n is) more
        | inr other ↦ rw (ne_eqb k n other) (driven-at_least c s s (force n v) (driver_of c k) u x k (λ j. IsAtLeast-refl (s j)) h)
      ]
