-- Which nets of a bridge are forced, and the gates downstream of them.
use Rattle.std.proofs.Common.{◌≡◌, ℕ, ◌+◌, ◌≤◌, Bool, true, false, cond, eqb, ◌&&◌, ◌||◌, List, [], ◌∷◌, length, refl, arith}
use Rattle.std.specs.Prelude.{filter}
use Rattle.std.specs.List.{list_any}
use Rattle.scan_model.specs.declared.values.Tri.{Tri}
use Rattle.scan_model.specs.declared.fault.BridgeKind.{BridgeKind}
use Rattle.scan_model.specs.declared.fault.BridgeKind.TheVariants.{Dominant, WiredAnd, WiredOr, DominantAnd, DominantOr}
use Rattle.scan_model.specs.Faults.{takes}
use Rattle.scan_model.specs.Netlist.{is_gate, net_numbers}
use Rattle.scan_model.specs.Cone.{in_fan_in}
use Rattle.scan_model.specs.ScanTest.{ScanTest}
use Rattle.scan_model.specs.Force.{force, force_taken}
use Rattle.scan_model.proofs.counting.OneSite.{force_two}
use Rattle.packed_sim.specs.PackedParts.{gates_downstream}

pub both_forced : (kind : BridgeKind) (a b : ℕ) (v : Tri) → takes kind true false ≡ true → force_two a b v ≡ force_taken kind a b v
both_forced Dominant a b v both = refl
both_forced WiredAnd a b v both = refl
both_forced WiredOr a b v both = refl
both_forced DominantAnd a b v both = absurd cc
both_forced DominantOr a b v both = absurd cc

pub second_forced : (kind : BridgeKind) (a b : ℕ) (v : Tri) → takes kind true false ≡ false → force b v ≡ force_taken kind a b v
second_forced Dominant a b v second = absurd cc
second_forced WiredAnd a b v second = absurd cc
second_forced WiredOr a b v second = absurd cc
second_forced DominantAnd a b v second = refl
second_forced DominantOr a b v second = refl

filter_within : (p q : ℕ → Bool) (xs : List ℕ) → ((x : ℕ) → p x ≡ true → q x ≡ true) → length (filter p xs) ≤ length (filter q xs)
filter_within p q [] inside = omega arith
filter_within p q (x ∷ xs) inside = go (p x) (q x) (inside x) (filter_within p q xs inside)
  where
    go : (b d : Bool) → (b ≡ true → d ≡ true) → length (filter p xs) ≤ length (filter q xs) → length (cond b (x ∷ filter p xs) (filter p xs)) ≤ length (cond d (x ∷ filter q xs) (filter q xs))
    go true true there later = omega (arith, later)
    go true false there later = absurd (let e : false ≡ true = there refl in cc)
    go false true there later = omega (arith, later)
    go false false there later = later

-- the gates downstream of the second net are downstream of the two
pub second_within : (t : ScanTest) (a b : ℕ) → length (gates_downstream t (b ∷ [])) ≤ length (gates_downstream t (a ∷ b ∷ []))
second_within t a b = filter_within (λ g. is_gate t.netlist g && (in_fan_in t.netlist b g || false)) (λ g. is_gate t.netlist g && (in_fan_in t.netlist a g || (in_fan_in t.netlist b g || false))) (net_numbers t.netlist)
    (λ g. wider (is_gate t.netlist g) (in_fan_in t.netlist a g) (in_fan_in t.netlist b g || false))
  where
    wider : (x y z : Bool) → (x && z) ≡ true → (x && (y || z)) ≡ true
    wider true true z e = refl
    wider true false z e = e
    wider false y z e = e
