-- Where a flip of a net shows, kept for the next look.
use Rattle.std.specs.Prelude.{ℕ, ◌<◌, All, length, IfSome}
use Rattle.fault_effects.specs.declared.cached_flip.CachedFlip.{CachedFlip}
use Rattle.fault_effects.specs.declared.kept_flips.KeptFlips.{KeptFlips}
use Rattle.fault_effects.specs.FaultModel.{FaultModel, Table, shown_in}

-- what is kept is where a flip of the net shows that is named, if any
abbrev pub IsCachedFlip : {F : Type 0} → (F → Table → Type 0) → FaultModel → ℕ → CachedFlip F → Type 0
IsCachedFlip holds m b kept = IfSome kept.net (λ n. holds kept.flip (shown_in m b n))

-- there is a place for a flip, and what is kept at each is a flip
pub record AreKeptFlips {F : Type 0} (holds : F → Table → Type 0) (m : FaultModel) (b : ℕ) (kept : KeptFlips F) : Type 0 where
  pub some : 0 < length kept.flips.items
  pub each : All (IsCachedFlip holds m b) kept.flips.items
