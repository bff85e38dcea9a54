use Rattle.std.proofs.Common.{◌≡◌, ℕ, ◌<◌, ◌&&◌, eqb, ltb, get_or, length}
use Rattle.scan_model.specs.declared.parts.Pair.{Pair}
use Rattle.bridge_pairs.specs.PairRows.{has_pair}
use Rattle.bridge_pairs.specs.Ranks.{start_of}
use Rattle.bridge_pairs.proofs.sweep.set_starts.Given as goal

abbrev pub invariant-loop-j : goal.invariant-loop-j
invariant-loop-j l = record {
  len : length l.rows ≡ length l.initial.rows;
  starts : (i n : ℕ) (d : Pair) → i < 512 → n < length l.rows → has_pair l.rows i n ≡ (ltb i l.j && eqb n (start_of l.ranks (get_or l.batch i d)));
}
