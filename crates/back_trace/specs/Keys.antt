-- The net to which the row of a point belongs, if any.
use Rattle.std.specs.Prelude.{◌≡◌, ℕ, ◌<◌, List, length, Bool, false, ◌==◌, Option, Some, None, slice_index_or}
use Rattle.scan_model.specs.declared.parts.Point.{Point}
use Rattle.scan_model.specs.ScanTest.{ScanTest, point_at}
use Rattle.scan_model.specs.Suspect.{observed_net}

abbrev pub is_key : Option ℕ → ℕ → Bool
is_key None n = false
is_key (Some m) n = m == n

abbrev pub IsKeyBelow : ℕ → Option ℕ → Type 0
IsKeyBelow count None = Unit {0}
IsKeyBelow count (Some m) = m < count

-- a key for each of the first points: the net that belongs to it by a test, and a net of the circuit
pub record AreKeys (t : ScanTest) (belongs : ℕ → Point → Bool) (count : ℕ) (keys : List (Option ℕ)) : Type 0 where
  pub len : length keys ≡ count
  pub below : (k : ℕ) → k < count → IsKeyBelow (length t.netlist.nets) (slice_index_or keys k None)
  pub key : (k n : ℕ) → k < count → is_key (slice_index_or keys k None) n ≡ belongs n (point_at t k)

-- the net is the one that the point observes
abbrev pub observes : ScanTest → ℕ → Point → Bool
observes t n point = observed_net t point == n
