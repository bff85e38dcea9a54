use Rattle.std.proofs.Common.{◌≡◌, ℕ, ◌<◌, ◌+◌, ◌&&◌, nat_lt}
use Rattle.std.specs.Prelude.{slice_index_or}
use Rattle.scan_model.specs.ScanTest.{no_pattern}
use Rattle.bit_rows.specs.Lanes.{lane}
use Rattle.value_rows.specs.Kinds.{same_kind}
use Rattle.value_rows.proofs.kinds.kind_lanes.Given as goal

abbrev pub invariant-loop-at : goal.invariant-loop-at
invariant-loop-at l = (j : ℕ) → j < 512 → lane l.lanes j ≡ (nat_lt j l.at && same_kind l.kind (slice_index_or l.patterns (l.first + j) no_pattern).kind)
