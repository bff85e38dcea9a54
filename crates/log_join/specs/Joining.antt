-- What joined logs stand for.
use Rattle.std.specs.Prelude.{◌≡◌, ℕ, ◌<◌, Bool, ◌||◌, List, length, All, Contains}
use Rattle.scan_model.specs.declared.values.Tri.{Tri}
use Rattle.scan_model.specs.declared.logs.LogFacts.{LogFacts}
use Rattle.scan_model.specs.declared.logs.BitClass.{BitClass}
use Rattle.scan_model.specs.BitTable.{table_bit}
use Rattle.scan_model.specs.Coverage.{bit_of}
use Rattle.scan_model.specs.Classes.{some_fails, some_passes, is_conflict, is_masked}

-- two tables of bits: what some log covers as failing, and what some log covers as passing
pub record JoinedBits : Type 0 where
  pub patterns : ℕ
  pub points : ℕ
  pub failed : List ℕ
  pub passed : List ℕ

-- at every bit the two tables say what some log of the list covers
pub record StandsFor (logs : List LogFacts) (joined : JoinedBits) : Type 0 where
  pub failed : (w k : ℕ) → w < joined.patterns → k < joined.points → table_bit joined.failed joined.points w k ≡ some_fails logs (bit_of w k)
  pub passed : (w k : ℕ) → w < joined.patterns → k < joined.points → table_bit joined.passed joined.points w k ≡ some_passes logs (bit_of w k)

-- each log of one list is in the other, so that they differ in order and repeats alone
abbrev pub HaveSameLogs : List LogFacts → List LogFacts → Type 0
HaveSameLogs logs others = All (Contains others) logs × All (Contains logs) others

-- for so many patterns and points
abbrev pub IsJoinedOf : ℕ → ℕ → JoinedBits → Type 0
IsJoinedOf patterns points joined = (joined.patterns ≡ patterns) × (joined.points ≡ points)

-- a row of expected values for each pattern, with a value for each point
abbrev pub FitsExpected : List (List Tri) → JoinedBits → Type 0
FitsExpected rows joined = (length rows ≡ joined.patterns) × All (λ row. length row ≡ joined.points) rows

-- some log lists the bit, and it doesn't count as Failing
abbrev pub is_set_aside : BitClass → Bool
is_set_aside class = is_conflict class || is_masked class
