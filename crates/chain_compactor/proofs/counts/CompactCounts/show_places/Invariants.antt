use Rattle.std.proofs.Common.{◌≡◌, ℕ, ◌-◌, ◌≤◌, Bool, ◌&&◌, length}
use Rattle.std.specs.Prelude.{sum_by}
use Rattle.std.specs.List.{range_with_len}
use Rattle.log_rows.specs.declared.side.Side.{Side}
use Rattle.match_counts.specs.Flips.{tallied, list_on}
use Rattle.match_counts.specs.Tables.{lanes_of}
use Rattle.chain_compactor.specs.CompactCounts.{differs_in, within_set}
use Rattle.chain_compactor.proofs.counts.CompactCounts.show_places.Given as goal

abbrev pub invariant-loop-place : goal.invariant-loop-place
invariant-loop-place g l = record {
  within : l.from ≤ length l.self.rows.now;
  shown : (side : Side) (m : ℕ → Bool) → tallied (list_on side l.into) m
      ≡ sum_by (lanes_of l.self.rows.now side (λ q j. within_set l.set (differs_in l.self.parts.now l.self.compact.now l.lanes (g.C.Changes.good l.changes) (g.C.Changes.shown l.changes)) q j && m j)) (range_with_len 0 l.from);
}

abbrev pub decreases-loop-place : goal.decreases-loop-place
decreases-loop-place g l = length l.self.rows.now - l.from
