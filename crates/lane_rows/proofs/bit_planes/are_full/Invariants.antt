use Rattle.std.proofs.Common.{◌≡◌, ℕ, ◌<◌, length, get_or}
use Rattle.scan_model.specs.ScanTest.{no_pattern}
use Rattle.lane_rows.specs.DrivenParts.{part_values}
use Rattle.lane_rows.proofs.bit_planes.are_full.Given as goal

abbrev pub invariant-loop-pattern : goal.invariant-loop-pattern
invariant-loop-pattern l = (k : ℕ) → k < l.pattern-index → length (part_values l.part (get_or l.patterns k no_pattern)) ≡ l.nets
