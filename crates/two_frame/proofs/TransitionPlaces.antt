-- The fault that the list of all modelled faults has at the place of a transition fault.
use Rattle.std.proofs.Common.{◌≡◌, ℕ, ◌<◌, length, get_or, Some, None, sym, subst, ◌∙◌, inl, inr, arith}
use Rattle.std.specs.Prelude.{Contains, filter, slice_get}
use Rattle.std.proofs.lemmas.List.Elements.{Contains-append_cases, Contains-get_or}
use Rattle.std.proofs.lemmas.Option.{get_or_from_slice_get, slice_get-get_or}
use Rattle.scan_model.specs.declared.fault.BridgeKind.{BridgeKind}
use Rattle.scan_model.specs.declared.fault.CellKind.{CellKind}
use Rattle.scan_model.specs.declared.fault.Fault.{Fault}
use Rattle.scan_model.specs.declared.fault.Fault.TheVariants as fault
use Rattle.scan_model.specs.Netlist.{is_branch, pin_numbers}
use Rattle.scan_model.specs.ScanTest.{ScanTest}
use Rattle.scan_model.specs.Universe.{universe, stems, branches}
use Rattle.scan_model.specs.ReportText.{no_fault}
use Rattle.fault_universe.proofs.StemPlaces.{only_stems}
use Rattle.fault_universe.proofs.BranchPlaces.{branch_owner}
use Rattle.two_frame.specs.TwoFrame.{transitions}
use Rattle.two_frame.specs.FrameRows.{transition_at}
use Rattle.two_frame.proofs.SlowPlaces.{slow_at, slow_in_range}

pub transition_is : (t : ScanTest) (place : ℕ) (f : Fault) → place < length (transitions t) → Some f ≡ slice_get (universe t) place → transition_at t place ≡ f
transition_is t place f lt is = slow_at t place no_fault lt ∙ get_or_from_slice_get (universe t) place f no_fault (sym is)

-- there is one
pub not_past : (t : ScanTest) (place : ℕ) → place < length (transitions t) → None ≡ slice_get (universe t) place → ⊥
not_past t place lt is =
    let apart : None ≡ Some (get_or (universe t) place no_fault) = is ∙ slice_get-get_or (universe t) place no_fault (omega (arith, lt, slow_in_range t)) in
    cc

-- it is a stem or a branch
pub no_bridge_in : (t : ScanTest) (a b : ℕ) (kind : BridgeKind) → Contains (transitions t) (fault.Bridge a b kind) → ⊥
no_bridge_in t a b kind there = elim (Contains-append_cases (stems t) (branches t) (fault.Bridge a b kind) there) [
  | inl stem ↦ only_stems t (fault.Bridge a b kind) stem
  | inr branch ↦ (branch_owner (filter (is_branch t.netlist) (pin_numbers t.netlist)) (fault.Bridge a b kind) branch).2
]

pub no_cell_in : (t : ScanTest) (h i : ℕ) (kind : CellKind) → Contains (transitions t) (fault.Cell h i kind) → ⊥
no_cell_in t h i kind there = elim (Contains-append_cases (stems t) (branches t) (fault.Cell h i kind) there) [
  | inl stem ↦ only_stems t (fault.Cell h i kind) stem
  | inr branch ↦ (branch_owner (filter (is_branch t.netlist) (pin_numbers t.netlist)) (fault.Cell h i kind) branch).2
]

transition_in : (t : ScanTest) (f : Fault) (place : ℕ) → place < length (transitions t) → Some f ≡ slice_get (universe t) place → Contains (transitions t) f
transition_in t f place lt is = subst (Contains (transitions t)) (transition_is t place f lt is) (Contains-get_or (transitions t) place no_fault lt)

pub no_bridge : (t : ScanTest) (a b : ℕ) (kind : BridgeKind) (place : ℕ) → place < length (transitions t) → Some (fault.Bridge a b kind) ≡ slice_get (universe t) place → ⊥
no_bridge t a b kind place lt is = no_bridge_in t a b kind (transition_in t (fault.Bridge a b kind) place lt is)

pub no_cell : (t : ScanTest) (h i : ℕ) (kind : CellKind) (place : ℕ) → place < length (transitions t) → Some (fault.Cell h i kind) ≡ slice_get (universe t) place → ⊥
no_cell t h i kind place lt is = no_cell_in t h i kind (transition_in t (fault.Cell h i kind) place lt is)
