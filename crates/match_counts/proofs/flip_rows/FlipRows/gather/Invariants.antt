use Rattle.std.proofs.Common.{◌≡◌, ℕ, ◌&&◌, Bool, take}
use Rattle.std.specs.Prelude.{sum_by}
use Rattle.lane_rows.specs.Lanes.{count_lanes}
use Rattle.packed_sim.specs.PackedParts.{points_of_net}
use Rattle.log_rows.specs.declared.side.Side.{Side}
use Rattle.match_counts.specs.Flips.{tallied, caught_lane, list_on}
use Rattle.match_counts.proofs.flip_rows.FlipRows.gather.Given as goal

abbrev pub invariant-loop-net : goal.invariant-loop-net
invariant-loop-net l = (side : Side) (m : ℕ → Bool) → tallied (list_on side l.self) m
    ≡ sum_by (λ n. sum_by (λ k. count_lanes (λ j. caught_lane l.counts.parts.now l.counts.good.now l.scratch l.counts.block l.counts.rows.now side k j && m j)) (points_of_net l.counts.parts.now n)) (take l.net-index l.nets)
