-- The bits of numbers as lanes, and the plane that has a value's lanes.
use Rattle.std.specs.Prelude.{ℕ, Bool, ◌==◌}
use Rattle.std.specs.Int.{bit_at}
use Rattle.scan_model.specs.declared.values.Tri.{Tri}
use Rattle.scan_model.specs.declared.values.Tri.TheVariants.{Zero, One, Unknown}
use Rattle.scan_model.specs.Values.{is_zero, is_one, is_unknown}
use Rattle.lane_rows.specs.declared.bit_planes.Plane.{Plane}
use Rattle.lane_rows.specs.declared.bit_planes.Plane.TheVariants.{Ones, Zeros}

-- whether bit j of a number is 1
abbrev pub has_bit : ℕ → ℕ → Bool
has_bit n j = bit_at n j == 1

abbrev pub is_same : Tri → Tri → Bool
is_same Zero value = is_zero value
is_same One value = is_one value
is_same Unknown value = is_unknown value

-- the plane of ones has the lanes that are 1, that of zeros those that are 0
abbrev pub value_of : Plane → Tri
value_of Ones = One
value_of Zeros = Zero

abbrev pub is_in : Plane → Tri → Bool
is_in plane value = is_same (value_of plane) value
