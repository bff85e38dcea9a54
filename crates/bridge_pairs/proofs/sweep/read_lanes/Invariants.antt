use Rattle.std.proofs.Common.{◌≡◌, ℕ, ◌<◌, take}
use Rattle.std.specs.List.{list_any}
use Rattle.scan_model.specs.Netlist.{reads}
use Rattle.bit_rows.specs.Lanes.{lane}
use Rattle.bridge_pairs.specs.PairRows.{has_pair}
use Rattle.bridge_pairs.proofs.sweep.read_lanes.Given as goal

abbrev pub invariant-loop-pin : goal.invariant-loop-pin
invariant-loop-pin l = (j : ℕ) → j < 512 → lane l.lanes j ≡ list_any (has_pair l.rows j) (take l.pin-index (reads l.circuit l.gate))
