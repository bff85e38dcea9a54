-- The pairs that a list names: of nets of the circuit, and each once.
use Rattle.std.specs.Prelude.{ℕ, ◌<◌, ◌≤◌, List, length, All}
use Rattle.std.specs.List.{IsDistinct}
use Rattle.scan_model.specs.declared.parts.Pair.{Pair}
use Rattle.scan_model.specs.ScanTest.{same_pair}

-- pairs of so many nets, of which no two have the same two nets
pub record AreNamed (nets : ℕ) (pairs : List Pair) : Type 0 where
  pub within : All (λ p. (p.a < nets) × (p.b < nets)) pairs
  pub differ : IsDistinct same_pair pairs
  pub few : length pairs ≤ 65536
