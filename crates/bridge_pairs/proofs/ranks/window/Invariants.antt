use Rattle.std.proofs.Common.{ℕ, ◌≤◌, ◌<◌, get_or, length}
use Rattle.scan_model.specs.declared.parts.Pair.{Pair}
use Rattle.bridge_pairs.specs.Ranks.{start_of, target_of}
use Rattle.bridge_pairs.proofs.ranks.window.Given as goal

abbrev pub invariant-loop-pair : goal.invariant-loop-pair
invariant-loop-pair l =
    let ranks = l.ranked.ranks.now in
    record {
      low : (k : ℕ) (d : Pair) → k < l.pair-index → l.low ≤ get_or ranks (start_of ranks (get_or l.batch k d)) 0;
      high : (k : ℕ) (d : Pair) → k < l.pair-index → get_or ranks (target_of ranks (get_or l.batch k d)) 0 ≤ l.high;
      end : l.high ≤ length l.ranked.order.now;
    }
