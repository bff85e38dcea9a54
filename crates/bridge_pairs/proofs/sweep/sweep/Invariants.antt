use Rattle.std.proofs.Common.{◌≡◌, ℕ, ◌<◌, get_or, length}
use Rattle.scan_model.specs.declared.parts.Pair.{Pair}
use Rattle.scan_model.proofs.FanSweeps.{IsSwept}
use Rattle.bridge_pairs.specs.PairRows.{has_pair}
use Rattle.bridge_pairs.specs.Ranks.{start_of}
use Rattle.bridge_pairs.proofs.sweep.sweep.Given as goal

abbrev pub invariant-loop-k : goal.invariant-loop-k
invariant-loop-k l =
    let circuit = l.ranked.circuit.now in
    record {
      len : length l.rows ≡ length circuit.nets;
      swept : (j : ℕ) (d : Pair) → j < length l.batch → IsSwept circuit l.ranked.order.now (start_of l.ranked.ranks.now (get_or l.batch j d)) l.k (has_pair l.rows j);
    }
