use Rattle.std.proofs.Common.{◌≤◌, length}
use Rattle.bridge_pairs.specs.Ranks.{RanksFrom}
use Rattle.bridge_pairs.proofs.ranks.write_ranks.Given as goal

abbrev pub invariant-loop-k : goal.invariant-loop-k
invariant-loop-k l = record {
  within : l.k ≤ length l.order;
  ranks : RanksFrom l.order l.ranks l.k;
}

abbrev pub decreases-loop-k : goal.decreases-loop-k
decreases-loop-k l = l.k
