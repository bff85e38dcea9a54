-- A site that is not flipped predicts no fail, and a bridge forces one net at most.
use Rattle.std.proofs.Common.{List, ◌≡◌, ◌⊎◌, ℕ, ◌<◌, Bool, true, false, cond, eqb, ◌||◌, Some, None, refl, sym, ap, ◌∙◌, inl, inr}
use Rattle.std.proofs.lemmas.Bool.{cases_eq, both_ways, eq-eqb, ne_eqb, eqb-true}
use Rattle.std.specs.Prelude.{length}
use Rattle.scan_model.specs.declared.values.Tri.{Tri}
use Rattle.scan_model.specs.declared.values.Tri.TheVariants.{Zero, One, Unknown}
use Rattle.scan_model.specs.declared.fault.BridgeKind.{BridgeKind}
use Rattle.scan_model.specs.declared.fault.BridgeKind.TheVariants.{Dominant, WiredAnd, WiredOr, DominantAnd, DominantOr}
use Rattle.scan_model.specs.Values.{IsAtLeast, are_opposite, tri_not}
use Rattle.scan_model.specs.Faults.{bridged}
use Rattle.scan_model.specs.Netlist.{Netlist, IsNetlist}
use Rattle.scan_model.specs.Walks.{IsEvaluationOrder}
use Rattle.scan_model.specs.Cone.{in_fan_in}
use Rattle.scan_model.specs.NetValue.{Forced, values_of, nothing_forced}
use Rattle.scan_model.proofs.NetValues.{values_of-is}
use Rattle.scan_model.specs.Force.{force}
use Rattle.scan_model.proofs.counting.Valuations.{agree_apart, values_meet, valuation_is, own_force, force-at_least}

-- the other definite value is the negated one
pub opposite_is_not : (x v : Tri) → are_opposite x v ≡ true → v ≡ tri_not x
opposite_is_not Zero Zero e = absurd cc
opposite_is_not Zero One e = refl
opposite_is_not Zero Unknown e = absurd cc
opposite_is_not One Zero e = refl
opposite_is_not One One e = absurd cc
opposite_is_not One Unknown e = absurd cc
opposite_is_not Unknown v e = absurd cc

-- values that are not opposite compare, and values that compare are not opposite
pub compare : (x v : Tri) → are_opposite x v ≡ false → IsAtLeast v x ⊎ IsAtLeast x v
compare Unknown v e = inl tt
compare Zero Unknown e = inr tt
compare One Unknown e = inr tt
compare Zero Zero e = inl refl
compare One One e = inl refl
compare Zero One e = absurd cc
compare One Zero e = absurd cc

pub above_not_opposite : (x v : Tri) → IsAtLeast v x → are_opposite x v ≡ false
above_not_opposite Unknown v h = refl
above_not_opposite Zero v h = ap (are_opposite Zero) h
above_not_opposite One v h = ap (are_opposite One) h

pub below_not_opposite : (x v : Tri) → IsAtLeast x v → are_opposite x v ≡ false
below_not_opposite Zero Unknown h = refl
below_not_opposite One Unknown h = refl
below_not_opposite Unknown v h = refl
below_not_opposite Zero Zero h = refl
below_not_opposite One One h = refl
below_not_opposite Zero One h = absurd (let e : Zero ≡ One = h in cc)
below_not_opposite One Zero h = absurd (let e : One ≡ Zero = h in cc)

-- the forced value of a bridge is that of one of its nets
pub one_site : (kind : BridgeKind) (x y : Tri) → (bridged kind x y ≡ x) ⊎ (bridged kind x y ≡ y)
one_site Dominant x y = inl refl
one_site WiredAnd Zero Zero = inl refl
one_site WiredAnd Zero One = inl refl
one_site WiredAnd Zero Unknown = inl refl
one_site WiredAnd One Zero = inr refl
one_site WiredAnd One One = inl refl
one_site WiredAnd One Unknown = inr refl
one_site WiredAnd Unknown Zero = inr refl
one_site WiredAnd Unknown One = inl refl
one_site WiredAnd Unknown Unknown = inl refl
one_site WiredOr Zero Zero = inl refl
one_site WiredOr Zero One = inr refl
one_site WiredOr Zero Unknown = inr refl
one_site WiredOr One Zero = inl refl
one_site WiredOr One One = inl refl
one_site WiredOr One Unknown = inl refl
one_site WiredOr Unknown Zero = inl refl
one_site WiredOr Unknown One = inr refl
one_site WiredOr Unknown Unknown = inl refl
one_site DominantAnd Zero Zero = inl refl
one_site DominantAnd Zero One = inl refl
one_site DominantAnd Zero Unknown = inl refl
one_site DominantAnd One Zero = inr refl
one_site DominantAnd One One = inl refl
one_site DominantAnd One Unknown = inr refl
one_site DominantAnd Unknown Zero = inr refl
one_site DominantAnd Unknown One = inl refl
one_site DominantAnd Unknown Unknown = inl refl
one_site DominantOr Zero Zero = inl refl
one_site DominantOr Zero One = inr refl
one_site DominantOr Zero Unknown = inr refl
one_site DominantOr One Zero = inl refl
one_site DominantOr One One = inl refl
one_site DominantOr One Unknown = inl refl
one_site DominantOr Unknown Zero = inl refl
one_site DominantOr Unknown One = inr refl
one_site DominantOr Unknown Unknown = inl refl

abbrev pub force_two : ℕ → ℕ → Tri → Forced
force_two a b v = record { net = λ n. cond (eqb n a || eqb n b) (Some v) None; pin = λ p. None }

module _ (c : Netlist) (order : List ℕ) (sound : IsNetlist c) (ordered : IsEvaluationOrder c order) (s : ℕ → Tri) where
  abbrev pub good : ℕ → Tri
  good = values_of c s nothing_forced

  -- no fail without a flip
  pub unflipped : (n : ℕ) (v : Tri) → are_opposite (good n) v ≡ false → (m : ℕ) → m < length c.nets → are_opposite (good m) (values_of c s (force n v) m) ≡ false
  unflipped n v miss m lt =
      let same : good m ≡ values_of c s (force n (good n)) m = own_force c order sound ordered s n m lt in
      elim (compare (good n) v miss) [
        | inl more ↦ rw same (above_not_opposite (values_of c s (force n (good n)) m) (values_of c s (force n v) m) (force-at_least c order sound ordered s n v (good n) more m))
        | inr less ↦ rw same (below_not_opposite (values_of c s (force n (good n)) m) (values_of c s (force n v) m) (force-at_least c order sound ordered s n (good n) v less m))
      ]

  -- outside the cone nothing changes
  pub force_outside : (n : ℕ) (v : Tri) (m : ℕ) → m < length c.nets → in_fan_in c n m ≡ false → values_of c s (force n v) m ≡ good m
  force_outside n v m lt out = agree_apart c order sound ordered s s (force n v) nothing_forced (λ k. eqb k n) (values_of c s (force n v)) good
      (values_meet c order sound ordered s (force n v)) (values_meet c order sound ordered s nothing_forced)
      (λ k in' miss u. elim (cases_eq k n) [ inl is ↦ absurd (both_ways (eqb k n) miss (eq-eqb k n is)) | inr other ↦ rw (ne_eqb k n other) refl ])
      m lt (λ k hit. ap (λ (x : ℕ). in_fan_in c x m) (eqb-true k n hit) ∙ out)

  -- two nets forced to the fault-free value of the first, which the second does not lead to
  pub one_of_two : (a b : ℕ) (v : Tri) → a < length c.nets → v ≡ good a → in_fan_in c b a ≡ false → (m : ℕ) → m < length c.nets → values_of c s (force_two a b v) m ≡ values_of c s (force b v) m
  one_of_two a b v a_lt is out m lt = sym (valuation_is c order sound ordered s (force_two a b v) (values_of c s (force b v)) (λ k in'. elim (cases_eq k b) [
    | inl at_b ↦ rw (eq-eqb k b at_b, or_true (eqb k a)) (values_of-is c order s (force b v) ordered k in' ∙ rw (eq-eqb k b at_b) refl)
    | inr not_b ↦ elim (cases_eq k a) [
      | inl at_a ↦ rw (eq-eqb k a at_a) (ap (values_of c s (force b v)) at_a ∙ force_outside b v a a_lt out ∙ sym is)
      | inr not_a ↦ rw (ne_eqb k a not_a, ne_eqb k b not_b) (values_of-is c order s (force b v) ordered k in' ∙ rw (ne_eqb k b not_b) refl)
    ]
  ]) m lt)
    where
      or_true : (x : Bool) → (x || true) ≡ true
      or_true true = refl
      or_true false = refl
