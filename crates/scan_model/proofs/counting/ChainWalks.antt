-- Where a walk along a chain begins, and what its steps set.
use Rattle.std.proofs.Common.{◌≡◌, ℕ, ◌-◌, ◌<◌, List, length, Some, None, refl, ap, ◌∙◌}
use mathlib.Core.Path.{fun_ext}
use Rattle.scan_model.specs.declared.values.Tri.{Tri}
use Rattle.scan_model.specs.declared.circuit.Driver.{Driver}
use Rattle.scan_model.specs.declared.circuit.Driver.TheVariants.{Input, Flop, Gate}
use Rattle.scan_model.specs.declared.parts.PatternKind.TheVariants.{Capture}
use Rattle.scan_model.specs.declared.fault.CellKind.{CellKind}
use Rattle.scan_model.specs.declared.fault.Fault.TheVariants as fault
use Rattle.scan_model.specs.Netlist.{driver_of}
use Rattle.scan_model.specs.Walks.{IsEvaluationOrder}
use Rattle.scan_model.specs.ChainShift.{value_at, passed}
use Rattle.scan_model.specs.ScanTest.{ScanTest, IsScanTest, IsFlop, chain_at, pattern_at}
use Rattle.scan_model.specs.NetValue.{driven, values_of, source_of, nothing_forced, good_value, net_value}
use Rattle.scan_model.proofs.NetValues.{values_of-is}
use Rattle.scan_model.specs.Loads.{load, cell}
use Rattle.scan_model.proofs.Cells.{cell_is_flop_of}
use Rattle.scan_model.proofs.counting.Sources.{source_own, source_above, source_last}

flop_value : (t : ScanTest) (s : ℕ → Tri) (f : ℕ → Tri) (n : ℕ) (d : Driver) → IsFlop d → driven t.netlist s nothing_forced d f n ≡ s n
flop_value t s f n Input flop = absurd flop
flop_value t s f n Flop flop = refl
flop_value t s f n (Gate kind) flop = absurd flop

module _ (t : ScanTest) (sound : IsScanTest t) (order : List ℕ) (ordered : IsEvaluationOrder t.netlist order) (w : ℕ) (lt : w < length t.patterns) (captures : (pattern_at t w).kind ≡ Capture) where
  cell_value : (s : ℕ → Tri) (h i : ℕ) → h < length t.chains → i < length (chain_at t h).cells → values_of t.netlist s nothing_forced (cell t h i) ≡ s (cell t h i)
  cell_value s h i in' within =
      let flop = cell_is_flop_of t sound h i in' within in
      values_of-is t.netlist order s nothing_forced ordered (cell t h i) flop.0 ∙ flop_value t s (values_of t.netlist s nothing_forced) (cell t h i) (driver_of t.netlist (cell t h i)) flop.1

  -- the fault-free value of a cell's net is its load
  pub good_of_cell : (h i : ℕ) → h < length t.chains → i < length (chain_at t h).cells → good_value t w (cell t h i) ≡ value_at (load t w h) i
  good_of_cell h i in' within = cell_value (source_of t None w) h i in' within ∙ source_own t w sound lt captures None h i in' within

  -- behind the last cell the logic is fault-free: there a walk begins
  pub walk_begins : (h n : ℕ) (K : CellKind) → h < length t.chains → net_value t (Some (fault.Cell h (length (chain_at t h).cells - 1) K)) w n ≡ good_value t w n
  walk_begins h n K in' = ap (λ (s : ℕ → Tri). values_of t.netlist s nothing_forced n) (fun_ext (source_last t w sound lt captures h K in'))

  -- each cell above the fault has the value that has passed it
  pub cell_above : (h c i : ℕ) (K : CellKind) → h < length t.chains → c < i → i < length (chain_at t h).cells → net_value t (Some (fault.Cell h c K)) w (cell t h i) ≡ passed K (load t w h) i
  cell_above h c i K in' above within = cell_value (source_of t (Some (fault.Cell h c K)) w) h i in' within ∙ source_above t w sound lt captures h K in' c i above within
