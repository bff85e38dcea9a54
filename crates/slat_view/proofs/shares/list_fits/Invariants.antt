use Rattle.std.proofs.Common.{◌≡◌, ℕ, ◌<◌, Bool, length, take}
use Rattle.std.specs.Prelude.{All, filter}
use Rattle.lane_rows.specs.Lanes.{lane}
use Rattle.fault_effects.specs.Owners.{places_of, suspect_at}
use Rattle.fault_effects.specs.Shares.{HasShare}
use Rattle.pattern_fits.specs.FitPlaces.{places_in}
use Rattle.slat_view.proofs.shares.list_fits.Given as goal

abbrev pub invariant-loop-i : goal.invariant-loop-i
invariant-loop-i l = (truth : ℕ → ℕ → Bool) → All (λ s. (j : ℕ) → j < 512 → lane s.part j ≡ truth (suspect_at l.suspects s.suspect).place j) l.shares
    → ((i : ℕ) → i < length l.suspects → HasShare l.shares i)
    → (j : ℕ) → j < 512 → places_in l.fits j ≡ filter (λ p. truth p j) (places_of (take l.i l.suspects))
