-- How many pins each net has.
use Rattle.std.specs.Prelude.{◌≡◌, ℕ, ◌<◌, List, length, count_by, ◌==◌, slice_index}
use Rattle.scan_model.specs.declared.circuit.Pin.{Pin}

-- a number for each of so many nets: how many of the pins are its own
pub record CountsPins (nets : ℕ) (pins : List Pin) (counts : List ℕ) : Type 0 where
  pub size : length counts ≡ nets
  pub each : (n : ℕ) → n < nets → slice_index counts n ≡ count_by (λ q. q.net == n) pins
