-- The values of one word of a row replaced.
use Rattle.std.proofs.Common.{◌≡◌, Bool, true, false, cond, ◌&&◌, refl}
use Rattle.scan_model.specs.declared.values.Tri.{Tri}
use Rattle.scan_model.specs.declared.values.Tri.TheVariants.{Zero, One, Unknown}
use Rattle.scan_model.specs.Values.{is_zero, is_one}
use Rattle.value_rows.specs.Planes.{value_of_bits}

-- two bits in place of a value, by a test
pub replaced : (is_there a b : Bool) (u : Tri) → value_of_bits (cond is_there a (is_one u)) (cond is_there b (is_zero u)) ≡ cond is_there (value_of_bits a b) u
replaced true a b u = refl
replaced false a b Zero = refl
replaced false a b One = refl
replaced false a b Unknown = refl

pub replaced_apart : (is_there a b : Bool) (u : Tri) → (a && b) ≡ false → (cond is_there a (is_one u) && cond is_there b (is_zero u)) ≡ false
replaced_apart true a b u apart = apart
replaced_apart false a b Zero apart = refl
replaced_apart false a b One apart = refl
replaced_apart false a b Unknown apart = refl
