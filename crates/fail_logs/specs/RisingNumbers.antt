-- The numbers of a list in rising order, each once.
use Rattle.std.specs.Prelude.{ℕ, ◌≡◌, List, map, Contains}
use Rattle.std.specs.List.Sorted.{IsStrictlyIncreasing}
use Rattle.scan_model.specs.declared.logs.Bit.{Bit}
use Rattle.fail_logs.specs.BitNumbers.{bit_numbered}

pub record IsRisingOf (numbers rising : List ℕ) : Type 0 where
  pub rises : IsStrictlyIncreasing rising
  pub keeps : (n : ℕ) → Contains numbers n → Contains rising n
  pub adds_none : (n : ℕ) → Contains rising n → Contains numbers n

-- the bits with these numbers, in bit order and each once
abbrev pub IsBitsOf : ℕ → List ℕ → List Bit → Type 0
IsBitsOf points numbers bits = (rising : List ℕ) × IsRisingOf numbers rising × (bits ≡ map (bit_numbered points) rising)
