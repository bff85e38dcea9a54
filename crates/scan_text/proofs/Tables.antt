-- A table of five rules of which none is broken.
use Rattle.std.proofs.Common.{◌≡◌, ℕ, Bool, true, false, [], ◌∷◌, None, refl}
use Rattle.scan_model.specs.TextFaults.{lowest}

pub none_broken : (i j k l m : ℕ) (p q r s t : Bool) → None ≡ lowest ((i, p) ∷ (j, q) ∷ (k, r) ∷ (l, s) ∷ (m, t) ∷ [])
    → (p ≡ false) × (q ≡ false) × (r ≡ false) × (s ≡ false) × (t ≡ false)
none_broken i j k l m true q r s t e = absurd cc
none_broken i j k l m false true r s t e = absurd cc
none_broken i j k l m false false true s t e = absurd cc
none_broken i j k l m false false false true t e = absurd cc
none_broken i j k l m false false false false true e = absurd cc
none_broken i j k l m false false false false false e = (refl, refl, refl, refl, refl)
