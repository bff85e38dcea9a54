-- Two values in one lane, by the bits that stand for them.
use Rattle.std.proofs.Common.{◌≡◌, Bool, true, false, not, cond, ◌&&◌, ◌||◌, refl, sym, ap, ◌∙◌}
use Rattle.scan_model.specs.declared.values.Tri.{Tri}
use Rattle.scan_model.specs.declared.values.Tri.TheVariants.{Zero, One, Unknown}
use Rattle.scan_model.specs.Values.{is_zero, is_one, is_unknown, are_opposite, tri_and, tri_or, tri_xor}
use Rattle.bit_rows.specs.Lanes.{differ}
use Rattle.value_rows.specs.Planes.{value_known, value_of_bits}

same_bits : (u : Tri) → (differ (is_one u) (is_one u) || differ (is_zero u) (is_zero u)) ≡ false
same_bits Zero = refl
same_bits One = refl
same_bits Unknown = refl

-- the bits of equal values don't differ
pub no_difference : (u v : Tri) → u ≡ v → (differ (is_one u) (is_one v) || differ (is_zero u) (is_zero v)) ≡ false
no_difference u v e = ap (λ (w : Tri). differ (is_one u) (is_one w) || differ (is_zero u) (is_zero w)) (sym e) ∙ same_bits u

-- the bits of one of two values stand for that value
pub picked : (l : Bool) (u v : Tri) → value_of_bits (cond l (is_one u) (is_one v)) (cond l (is_zero u) (is_zero v)) ≡ cond l u v
picked true Zero v = refl
picked true One v = refl
picked true Unknown v = refl
picked false u Zero = refl
picked false u One = refl
picked false u Unknown = refl

-- and they are not both set
pub picked_apart : (l : Bool) (u v : Tri) → (cond l (is_one u) (is_one v) && cond l (is_zero u) (is_zero v)) ≡ false
picked_apart true Zero v = refl
picked_apart true One v = refl
picked_apart true Unknown v = refl
picked_apart false u Zero = refl
picked_apart false u One = refl
picked_apart false u Unknown = refl

-- ---- what gates make of the bits of two values
pub and_bits : (u v : Tri) → value_of_bits (is_one u && is_one v) (is_zero u || is_zero v) ≡ tri_and u v
and_bits Zero Zero = refl
and_bits Zero One = refl
and_bits Zero Unknown = refl
and_bits One Zero = refl
and_bits One One = refl
and_bits One Unknown = refl
and_bits Unknown Zero = refl
and_bits Unknown One = refl
and_bits Unknown Unknown = refl

pub and_apart : (u v : Tri) → ((is_one u && is_one v) && (is_zero u || is_zero v)) ≡ false
and_apart Zero Zero = refl
and_apart Zero One = refl
and_apart Zero Unknown = refl
and_apart One Zero = refl
and_apart One One = refl
and_apart One Unknown = refl
and_apart Unknown Zero = refl
and_apart Unknown One = refl
and_apart Unknown Unknown = refl

pub or_bits : (u v : Tri) → value_of_bits (is_one u || is_one v) (is_zero u && is_zero v) ≡ tri_or u v
or_bits Zero Zero = refl
or_bits Zero One = refl
or_bits Zero Unknown = refl
or_bits One Zero = refl
or_bits One One = refl
or_bits One Unknown = refl
or_bits Unknown Zero = refl
or_bits Unknown One = refl
or_bits Unknown Unknown = refl

pub or_apart : (u v : Tri) → ((is_one u || is_one v) && (is_zero u && is_zero v)) ≡ false
or_apart Zero Zero = refl
or_apart Zero One = refl
or_apart Zero Unknown = refl
or_apart One Zero = refl
or_apart One One = refl
or_apart One Unknown = refl
or_apart Unknown Zero = refl
or_apart Unknown One = refl
or_apart Unknown Unknown = refl

pub xor_bits : (u v : Tri) → value_of_bits (are_opposite u v) (is_zero (tri_xor u v)) ≡ tri_xor u v
xor_bits Zero Zero = refl
xor_bits Zero One = refl
xor_bits Zero Unknown = refl
xor_bits One Zero = refl
xor_bits One One = refl
xor_bits One Unknown = refl
xor_bits Unknown Zero = refl
xor_bits Unknown One = refl
xor_bits Unknown Unknown = refl

pub xor_apart : (u v : Tri) → (are_opposite u v && is_zero (tri_xor u v)) ≡ false
xor_apart Zero Zero = refl
xor_apart Zero One = refl
xor_apart Zero Unknown = refl
xor_apart One Zero = refl
xor_apart One One = refl
xor_apart One Unknown = refl
xor_apart Unknown Zero = refl
xor_apart Unknown One = refl
xor_apart Unknown Unknown = refl

pub equal_bits : (u v : Tri) → ((is_one u && is_one v) || (is_zero u && is_zero v)) ≡ is_zero (tri_xor u v)
equal_bits Zero Zero = refl
equal_bits Zero One = refl
equal_bits Zero Unknown = refl
equal_bits One Zero = refl
equal_bits One One = refl
equal_bits One Unknown = refl
equal_bits Unknown Zero = refl
equal_bits Unknown One = refl
equal_bits Unknown Unknown = refl

-- ---- which lanes are known
pub known_bits : (u : Tri) → (is_one u || is_zero u) ≡ not (is_unknown u)
known_bits Zero = refl
known_bits One = refl
known_bits Unknown = refl

pub of_known_bits : (k o : Bool) → value_of_bits (k && o) (k && not o) ≡ value_known k o
of_known_bits true true = refl
of_known_bits true false = refl
of_known_bits false o = refl

pub of_known_apart : (k o : Bool) → ((k && o) && (k && not o)) ≡ false
of_known_apart true true = refl
of_known_apart true false = refl
of_known_apart false o = refl

-- the XOR with one value more is known where both are, and then 1 where one of them is
pub xor_known : (k o : Bool) (v : Tri) → value_known (k && not (is_unknown v)) (differ o (is_one v)) ≡ tri_xor (value_known k o) v
xor_known true true Zero = refl
xor_known true true One = refl
xor_known true true Unknown = refl
xor_known true false Zero = refl
xor_known true false One = refl
xor_known true false Unknown = refl
xor_known false o Zero = refl
xor_known false o One = refl
xor_known false o Unknown = refl
