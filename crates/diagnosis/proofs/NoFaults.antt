-- Texts that were read have no fault.
use Rattle.std.proofs.Common.{◌≡◌, ℕ, Option, Some, None, refl}
use Rattle.std.specs.Prelude.{Ok}
use Rattle.scan_model.specs.TextFaults.{or_else, refused_or}

-- a text that was read has no fault
pub no_fault : {X : Type 0} (fault : Option (ℕ × ℕ)) (value x : X) → refused_or fault value ≡ Ok x → (fault ≡ None) × (value ≡ x)
no_fault None value x e = (refl, cc)
no_fault (Some fault) value x e = absurd cc

pub neither : (first second : Option (ℕ × ℕ)) → or_else first second ≡ None → first ≡ None
neither None second e = refl
neither (Some fault) second e = absurd cc
