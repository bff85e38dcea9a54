-- How far the list of points in test order has come.
use Rattle.std.specs.Prelude.{◌≡◌, ℕ, ◌≤◌, List, ◌++◌, drop}
use Rattle.scan_model.specs.declared.parts.Chain.{Chain}
use Rattle.scan_model.specs.declared.parts.Point.{Point}
use Rattle.scan_model.specs.ScanTest.{cycle, longest}

-- the points so far, with what the cycle shows of the chains from number h on, are the old ones with the whole cycle
pub record CycleGoesOn (number : ℕ) (chains : List Chain) (old points : List Point) (h : ℕ) : Type 0 where
  pub rest : points ++ cycle number h (drop h chains) ≡ old ++ cycle number 0 chains
  pub short : longest (drop h chains) ≤ 65536
