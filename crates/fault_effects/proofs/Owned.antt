-- A fault that one net owns touches that net alone; one that a pin owns touches none.
use Rattle.std.proofs.Common.{◌≡◌, ℕ, zero, suc, ◌+◌, ◌<◌, ◌≤◌, Bool, true, false, cond, List, [], ◌∷◌, length, get_or, refl, sym, ap, subst, ◌∙◌, inl, inr, arith}
use Rattle.std.specs.Prelude.{Contains}
use Rattle.std.proofs.lemmas.Bool.{cases_Bool, eq-eqb}
use Rattle.scan_model.specs.declared.circuit.PinPlace.{PinPlace}
use Rattle.scan_model.specs.declared.circuit.PinPlace.TheVariants as place
use Rattle.scan_model.specs.declared.circuit.Driver.{Driver}
use Rattle.scan_model.specs.declared.circuit.Driver.TheVariants.{Input, Flop, Gate}
use Rattle.scan_model.specs.declared.fault.Stuck.{Stuck}
use Rattle.scan_model.specs.declared.fault.BridgeKind.{BridgeKind}
use Rattle.scan_model.specs.declared.fault.Fault.{Fault}
use Rattle.scan_model.specs.declared.fault.Fault.TheVariants as fault
use Rattle.scan_model.specs.Values.{are_opposite}
use Rattle.scan_model.specs.Netlist.{pin_at, driver_of, is_gate, is_gate_driver, IsPlacedAt}
use Rattle.scan_model.specs.declared.circuit.GateKind.{GateKind}
use Rattle.scan_model.specs.ScanTest.{ScanTest, HasSite, IsScanTest}
use Rattle.scan_model.specs.Faults.{stuck_value}
use Rattle.scan_model.specs.NetValue.{good_value}
use Rattle.scan_model.specs.Masks.{mask, touched_nets, place_nets, IsLogic}
use Rattle.fault_effects.specs.Owners.{owner, pin_owner}

-- the net owns the pin: it is the gate that reads it
pub record IsGatePin (t : ScanTest) (x : PinPlace) (n : ℕ) : Type 0 where
  pub index : ℕ
  pub at : x ≡ place.Operand n index
  pub gate : is_gate t.netlist n ≡ true

pub gate_pin : (t : ScanTest) (x : PinPlace) (n : ℕ) → pin_owner t x ≡ n → n < length t.netlist.nets → IsGatePin t x n
gate_pin t (place.Output k) n is lt = absurd (omega arith)
gate_pin t (place.Operand m i) n is lt = elim (cases_Bool (is_gate t.netlist m)) [
  | inl gate ↦
      let same : m ≡ n = ap (λ (g : Bool). cond g m (length t.netlist.nets)) (sym gate) ∙ is in
      record { index = i; at = ap (λ (x : ℕ). place.Operand x i) same; gate = ap (is_gate t.netlist) (sym same) ∙ gate }
  | inr other ↦ absurd (let past : length t.netlist.nets ≡ n = ap (λ (g : Bool). cond g m (length t.netlist.nets)) (sym other) ∙ is in omega arith)
]

-- a fault that flips one net
pub record IsOfNet (t : ScanTest) (f : Fault) (n : ℕ) : Type 0 where
  pub logic : IsLogic f
  pub touches : touched_nets t f ≡ n ∷ []

-- the fault is a bridge
abbrev pub IsBridge : Fault → Type 0
IsBridge (fault.Stem n v) = ⊥
IsBridge (fault.Branch p v) = ⊥
IsBridge (fault.Bridge a b kind) = Unit {0}
IsBridge (fault.Cell h c kind) = ⊥

pub no_bridge : (f : Fault) → ((a b : ℕ) (kind : BridgeKind) → f ≡ fault.Bridge a b kind → ⊥) → IsBridge f → ⊥
no_bridge (fault.Stem n v) none is = is
no_bridge (fault.Branch p v) none is = is
no_bridge (fault.Bridge a b kind) none is = none a b kind refl
no_bridge (fault.Cell h c kind) none is = is

pub of_net : (t : ScanTest) (f : Fault) (n : ℕ) → owner t f ≡ n → n < length t.netlist.nets → (IsBridge f → ⊥) → IsOfNet t f n
of_net t (fault.Stem m v) n is lt apart = record { logic = tt; touches = ap (λ (x : ℕ). x ∷ []) is }
of_net t (fault.Bridge a b kind) n is lt apart = absurd (apart tt)
of_net t (fault.Cell h c kind) n is lt apart = absurd (omega arith)
of_net t (fault.Branch p v) n is lt apart =
    let x = (pin_at t.netlist p).place in
    let pin = gate_pin t x n is lt in
    record {
      logic = tt;
      touches = ap (place_nets t) pin.at ∙ ap (λ (g : Bool). cond g (n ∷ []) []) pin.gate;
    }

pub touches_one : (t : ScanTest) (f : Fault) (n : ℕ) → touched_nets t f ≡ n ∷ [] → Contains (touched_nets t f) n
touches_one t f n is = subst (λ (ns : List ℕ). Contains ns n) (sym is) (0, omega arith, refl)

-- a net of a list of one or two
pub only_one : (m n : ℕ) → Contains (m ∷ []) n → n ≡ m
only_one m n touched = go touched.0 touched.1 touched.2
  where
    go : (k : ℕ) → k < 1 → get_or (m ∷ []) k n ≡ n → n ≡ m
    go zero lt is = sym is
    go (suc k) lt is = absurd (omega (arith, lt))

pub one_of_two : (P : ℕ → Type 0) (a b n : ℕ) → Contains (a ∷ b ∷ []) n → P a → P b → P n
one_of_two P a b n touched first second = go touched.0 touched.1 touched.2
  where
    go : (k : ℕ) → k < 2 → get_or (a ∷ b ∷ []) k n ≡ n → P n
    go zero lt is = subst P is first
    go (suc zero) lt is = subst P is second
    go (suc (suc k)) lt is = absurd (omega (arith, lt))

-- a pin that touches a net is the gate's
pub touched_pin : (t : ScanTest) (x : PinPlace) (n : ℕ) → Contains (place_nets t x) n → IsGatePin t x n
touched_pin t (place.Output k) n touched = absurd (omega (arith, touched.1))
touched_pin t (place.Operand m i) n touched = elim (cases_Bool (is_gate t.netlist m)) [
  | inl gate ↦
      let same : n ≡ m = only_one m n (subst (λ (ns : List ℕ). Contains ns n) (ap (λ (g : Bool). cond g (m ∷ []) []) gate) touched) in
      record { index = i; at = ap (λ (x : ℕ). place.Operand x i) (sym same); gate = ap (is_gate t.netlist) same ∙ gate }
  | inr other ↦ absurd (let none : Contains [] n = subst (λ (ns : List ℕ). Contains ns n) (ap (λ (g : Bool). cond g (m ∷ []) []) other) touched in omega (arith, none.1))
]

pub stem_mask : (t : ScanTest) (m n : ℕ) (v : Stuck) (w : ℕ) → m ≡ n → are_opposite (good_value t w n) (stuck_value v) ≡ mask t (fault.Stem m v) w n
stem_mask t m n v w is = rw (is, eq-eqb n n refl) refl

pub gate_kind : (t : ScanTest) (n : ℕ) → is_gate t.netlist n ≡ true → (kind : GateKind) × (driver_of t.netlist n ≡ Gate kind)
gate_kind t n gate = of (driver_of t.netlist n) refl gate
  where
    of : (d : Driver) → driver_of t.netlist n ≡ d → is_gate_driver (driver_of t.netlist n) ≡ true → (kind : GateKind) × (driver_of t.netlist n ≡ Gate kind)
    of Input is gate = absurd (let e : false ≡ true = ap is_gate_driver (sym is) ∙ gate in cc)
    of Flop is gate = absurd (let e : false ≡ true = ap is_gate_driver (sym is) ∙ gate in cc)
    of (Gate kind) is gate = (kind, is)

-- what a pin owns is a gate of the circuit, or past the nets
pin_owner-at_most : (t : ScanTest) (p : ℕ) → IsScanTest t → p < length t.netlist.pins → pin_owner t (pin_at t.netlist p).place ≤ length t.netlist.nets
pin_owner-at_most t p sound lt = of (pin_at t.netlist p).place (sound.circuit.netlist.pin_places p lt)
  where
    of : (x : PinPlace) → IsPlacedAt t.netlist p x → pin_owner t x ≤ length t.netlist.nets
    of (place.Output k) placed = omega arith
    of (place.Operand n i) placed = elim (cases_Bool (is_gate t.netlist n)) [
      | inl gate ↦ rw gate (omega (arith, placed.0))
      | inr other ↦ rw other (omega arith)
    ]

-- a pin that no net owns touches no net
pub straight_pin : (t : ScanTest) (p : ℕ) (v : Stuck) → IsScanTest t → p < length t.netlist.pins → pin_owner t (pin_at t.netlist p).place ≡ length t.netlist.nets → touched_nets t (fault.Branch p v) ≡ []
straight_pin t p v sound lt is = of (pin_at t.netlist p).place (sound.circuit.netlist.pin_places p lt) is
  where
    of : (x : PinPlace) → IsPlacedAt t.netlist p x → pin_owner t x ≡ length t.netlist.nets → place_nets t x ≡ []
    of (place.Output k) placed is = refl
    of (place.Operand n i) placed is = elim (cases_Bool (is_gate t.netlist n)) [
      | inl gate ↦ absurd (let same : n ≡ length t.netlist.nets = ap (λ (g : Bool). cond g n (length t.netlist.nets)) (sym gate) ∙ is in omega (arith, placed.0))
      | inr other ↦ ap (λ (g : Bool). cond g (n ∷ []) []) other
    ]

-- the fault is one of a shift path
abbrev pub IsOfPath : Fault → Type 0
IsOfPath (fault.Stem n v) = ⊥
IsOfPath (fault.Branch p v) = ⊥
IsOfPath (fault.Bridge a b kind) = ⊥
IsOfPath (fault.Cell h c kind) = Unit {0}

-- what owns itself past the pins
pub not_past : (t : ScanTest) (f : Fault) (k : ℕ) → IsScanTest t → HasSite t f → owner t f ≡ length t.netlist.nets + k → 0 < k → IsOfPath f
not_past t (fault.Stem n v) k sound site is some = absurd (omega arith)
not_past t (fault.Branch p v) k sound site is some = absurd (omega (arith, pin_owner-at_most t p sound site))
not_past t (fault.Bridge a b kind) k sound site is some = absurd (omega (arith, site.0))
not_past t (fault.Cell h c kind) k sound site is some = tt

pub owner_below : (t : ScanTest) (f : Fault) → IsScanTest t → HasSite t f → owner t f < length t.netlist.nets + 2
owner_below t (fault.Stem n v) sound site = omega arith
owner_below t (fault.Branch p v) sound site = omega (arith, pin_owner-at_most t p sound site)
owner_below t (fault.Bridge a b kind) sound site = omega (arith, site.0)
owner_below t (fault.Cell h c kind) sound site = omega arith
