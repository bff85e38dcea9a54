-- A value of each of 512 lanes, as a row of ones and a row of zeros.
use Rattle.std.specs.Prelude.{◌≡◌, ℕ, ◌<◌, List, Bool, true, false, ◌&&◌}
use Rattle.scan_model.specs.declared.values.Tri.{Tri}
use Rattle.scan_model.specs.declared.values.Tri.TheVariants.{Zero, One, Unknown}
use Rattle.bit_rows.specs.Lanes.{lane}

pub record Planes : Type 0 where
  pub ones : List ℕ
  pub zeros : List ℕ

abbrev pub planes : List ℕ → List ℕ → Planes
planes ones zeros = record { ones = ones; zeros = zeros }

-- no lane is both 1 and 0
abbrev pub AreApart : List ℕ → List ℕ → Type 0
AreApart ones zeros = (j : ℕ) → j < 512 → (lane ones j && lane zeros j) ≡ false

-- the value that two bits stand for
abbrev pub value_of_bits : Bool → Bool → Tri
value_of_bits true zero = One
value_of_bits false true = Zero
value_of_bits false false = Unknown

-- the value of a lane that is known or not, and 1 or 0 where it is
abbrev pub value_known : Bool → Bool → Tri
value_known true true = One
value_known true false = Zero
value_known false one = Unknown

-- the value of lane j
abbrev pub held : Planes → ℕ → Tri
held p j = value_of_bits (lane p.ones j) (lane p.zeros j)
