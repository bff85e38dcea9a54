use Rattle.std.proofs.Common.{◌≡◌, ℕ, ◌<◌, Bool, get_or}
use Rattle.std.specs.Prelude.{All}
use Rattle.lane_rows.specs.Lanes.{lane}
use Rattle.slat_view.specs.Trials.{lanes_at, no_share}
use Rattle.slat_view.proofs.shares.set_lanes.Given as goal

abbrev pub invariant-loop-share : goal.invariant-loop-share
invariant-loop-share l = (truth : ℕ → ℕ → Bool) → All (λ s. (j : ℕ) → j < 512 → lane s.part j ≡ truth s.suspect j) l.shares
    → (k : ℕ) → k < l.share-index → (j : ℕ) → j < 512 → lane (lanes_at l.table (get_or l.shares k no_share).suspect) j ≡ truth (get_or l.shares k no_share).suspect j
