-- The reach of failing bits: all bits up to the last of them, in bit order.
use Rattle.std.specs.Prelude.{◌≡◌, ◌+◌, ◌^◌, ◌<◌, Bool, false, ◌&&◌, ◌||◌, ◌==◌, List, All, nat_lt}
use Rattle.scan_model.specs.declared.logs.Bit.{Bit}
use Rattle.listed_bits.specs.declared.reach.Reach.{Reach}

-- the bit is at a pattern before the reach's, or among the first points of that pattern
abbrev pub reaches : Reach → Bit → Bool
reaches reach b = nat_lt b.pattern reach.pattern || ((b.pattern == reach.pattern) && nat_lt b.point reach.points)

-- the pattern before which it covers any point has a number below 2 ^ 32
abbrev pub HasEnds : Reach → Type 0
HasEnds reach = 0 < reach.points → reach.pattern + 1 < 2 ^ 32

-- the next pattern and the next point after the bit have numbers below 2 ^ 32
abbrev pub FitsWords : Bit → Type 0
FitsWords b = (b.pattern + 1 < 2 ^ 32) × (b.point + 1 < 2 ^ 32)

abbrev pub AreUnmarked : List Bool → Type 0
AreUnmarked marks = All (λ mark. mark ≡ false) marks
