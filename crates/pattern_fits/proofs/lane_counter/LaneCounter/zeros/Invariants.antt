use Rattle.std.proofs.Common.{◌≡◌, ℕ, ◌<◌, take}
use Rattle.std.specs.List.{list_any}
use Rattle.bit_rows.specs.Lanes.{lane}
use Rattle.pattern_fits.proofs.lane_counter.LaneCounter.zeros.Given as goal

abbrev pub invariant-loop-slice : goal.invariant-loop-slice
invariant-loop-slice l = (j : ℕ) → j < 512 → lane l.some j ≡ list_any (λ s. lane s j) (take l.slice-index l.slice-items)
