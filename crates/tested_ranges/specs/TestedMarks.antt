-- Marks of the tested patterns: those that some range holds.
use Rattle.std.specs.Prelude.{ℕ, ◌≡◌, List}
use Rattle.scan_model.specs.declared.logs.Range.{Range}
use Rattle.scan_model.specs.BitTable.{table_bit}
use Rattle.scan_model.specs.Coverage.{some_holds}

abbrev pub AreMarked : List ℕ → List Range → Type 0
AreMarked marks ranges = (w : ℕ) → table_bit marks 1 w 0 ≡ some_holds ranges w
