-- Rows of unknown values.
use Rattle.std.proofs.Common.{◌≡◌, ℕ, zero, suc, replicate, refl}
use Rattle.scan_model.specs.declared.values.Tri.TheVariants.{Unknown}
use Rattle.scan_model.specs.ChainShift.{value_at}

-- a list of unknown values
pub unknowns : (k n : ℕ) → value_at (replicate k Unknown) n ≡ Unknown
unknowns zero n = refl
unknowns (suc k) zero = refl
unknowns (suc k) (suc n) = unknowns k n
