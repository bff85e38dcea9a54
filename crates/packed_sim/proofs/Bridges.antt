-- Which net of a bridge's pair takes its value.
use Rattle.std.proofs.Common.{◌≡◌, Bool, true, false, refl}
use Rattle.scan_model.specs.declared.fault.BridgeKind.{BridgeKind}
use Rattle.scan_model.specs.declared.fault.BridgeKind.TheVariants.{Dominant, WiredAnd, WiredOr, DominantAnd, DominantOr}
use Rattle.scan_model.specs.Faults.{takes}

-- the second does, whatever the kind and whether or not it is the first, too
pub second_takes : (kind : BridgeKind) (is_first : Bool) → takes kind is_first true ≡ true
second_takes Dominant true = refl
second_takes Dominant false = refl
second_takes WiredAnd true = refl
second_takes WiredAnd false = refl
second_takes WiredOr true = refl
second_takes WiredOr false = refl
second_takes DominantAnd is_first = refl
second_takes DominantOr is_first = refl
