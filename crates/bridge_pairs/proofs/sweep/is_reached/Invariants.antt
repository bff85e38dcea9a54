use Rattle.std.proofs.Common.{◌≡◌, false, take}
use Rattle.std.specs.List.{list_any}
use Rattle.scan_model.specs.Netlist.{reads}
use Rattle.bridge_pairs.specs.PairRows.{has_row}
use Rattle.bridge_pairs.proofs.sweep.is_reached.Given as goal

abbrev pub invariant-loop-pin : goal.invariant-loop-pin
invariant-loop-pin l = list_any (has_row l.rows) (take l.pin-index (reads l.circuit l.gate)) ≡ false
