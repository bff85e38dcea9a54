-- The suspects of a die by the net that a fault flips.
use Rattle.std.specs.Prelude.{◌≡◌, ℕ, ◌+◌, ◌<◌, List, [], length, map, cond, All, Contains, Some, slice_get, slice_index_or}
use Rattle.scan_model.specs.declared.circuit.PinPlace.{PinPlace}
use Rattle.scan_model.specs.declared.circuit.PinPlace.TheVariants as place
use Rattle.scan_model.specs.declared.fault.Fault.{Fault}
use Rattle.scan_model.specs.declared.fault.Fault.TheVariants as fault
use Rattle.scan_model.specs.declared.fault.Stuck.TheVariants as stuck
use Rattle.scan_model.specs.Netlist.{pin_at, is_gate}
use Rattle.scan_model.specs.ScanTest.{ScanTest, HasSite}
use Rattle.scan_model.specs.Universe.{universe}
use Rattle.fault_effects.specs.declared.suspect.Suspect.{Suspect}

-- The net that a fault flips; of a bridge the first of its two nets. Past the nets: a pin that goes straight to a point, a chain's cell.
abbrev pub pin_owner : ScanTest → PinPlace → ℕ
pin_owner t (place.Operand n i) = cond (is_gate t.netlist n) n (length t.netlist.nets)
pin_owner t (place.Output k) = length t.netlist.nets

abbrev pub owner : ScanTest → Fault → ℕ
owner t (fault.Stem n v) = n
owner t (fault.Branch p v) = pin_owner t (pin_at t.netlist p).place
owner t (fault.Bridge a b kind) = a
owner t (fault.Cell h c kind) = length t.netlist.nets + 1

-- the fault stands at the place, and its site is there
pub record IsSuspectOf (t : ScanTest) (s : Suspect) : Type 0 where
  pub at : slice_get (universe t) s.place ≡ Some s.fault
  pub site : HasSite t s.fault

abbrev pub no_suspect : Suspect
no_suspect = record { place = 0; fault = fault.Stem 0 stuck.Zero }

abbrev pub suspect_at : List Suspect → ℕ → Suspect
suspect_at suspects i = slice_index_or suspects i no_suspect

-- a suspect of the list whose owner is this one
pub record IsOwned (t : ScanTest) (suspects : List Suspect) (net i : ℕ) : Type 0 where
  pub within : i < length suspects
  pub owned : owner t (suspect_at suspects i).fault ≡ net

-- the places of suspects, in their order
abbrev pub places_of : List Suspect → List ℕ
places_of suspects = map (λ s. s.place) suspects

-- each group has the numbers of the suspects that it owns
pub record AreOwners (t : ScanTest) (suspects : List Suspect) (groups : List (List ℕ)) : Type 0 where
  pub owned : (n : ℕ) → n < length groups → All (IsOwned t suspects n) (slice_index_or groups n [])
  pub all : (i : ℕ) → i < length suspects → Contains (slice_index_or groups (owner t (suspect_at suspects i).fault) []) i
