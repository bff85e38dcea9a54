use Rattle.std.proofs.Common.{◌≡◌, ◌-◌, drop}
use Rattle.pattern_fits.specs.LaneNumbers.{value}
use Rattle.pattern_fits.proofs.lane_counter.LaneCounter.at.Given as goal

abbrev pub invariant-loop-k : goal.invariant-loop-k
invariant-loop-k l = l.number ≡ value (drop (24 - l.k) l.self-inside.slices.items) l.j
