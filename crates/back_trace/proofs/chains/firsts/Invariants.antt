use Rattle.std.proofs.Common.{◌≡◌, ℕ, ◌<◌, ◌&&◌, length, None, get_or}
use Rattle.std.specs.List.{list_any, range_with_len}
use Rattle.scan_model.specs.ScanTest.{point_at}
use Rattle.explained_lanes.specs.Fails.{fails_at, Tells}
use Rattle.explained_lanes.specs.Traces.{is_shifted_through, is_from}
use Rattle.back_trace.proofs.chains.firsts.Given as goal

abbrev pub invariant-loop-k : goal.invariant-loop-k
invariant-loop-k l = record {
  len : length l.firsts.items ≡ length l.parts.chains;
  first : (h : ℕ) → h < length l.parts.chains → (c : ℕ) → Tells (is_from (get_or l.firsts.items h None) c) (λ j. list_any (λ k. fails_at l.fails j k && is_shifted_through l.shift j h c (point_at l.parts k)) (range_with_len 0 l.k));
}
