use Rattle.std.proofs.Common.{◌≡◌, ℕ, ◌<◌, length, get_or}
use Rattle.scan_model.specs.ScanTest.{chain_at}
use Rattle.explained_lanes.specs.Traces.{IsLastReached}
use Rattle.back_trace.proofs.chains.lasts.Given as goal

abbrev pub invariant-loop-h : goal.invariant-loop-h
invariant-loop-h l = record {
  len : length l.lasts.items ≡ l.h;
  last : (h : ℕ) → h < l.h → IsLastReached l.reach (chain_at l.parts h).cells (get_or l.lasts.items h 0);
}
