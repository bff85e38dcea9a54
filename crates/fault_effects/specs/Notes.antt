-- The notes of a walk along a chain: a row for each place, with what an observer makes of them.
use Rattle.std.specs.Prelude.{◌≡◌, ℕ, length}
use Rattle.fault_effects.specs.declared.notes.Notes.{Notes}
use Rattle.fault_effects.specs.FaultModel.{Table}
use Rattle.fault_effects.specs.Tables.{table_of}

-- so many rows, and their table is summed
pub record AreNotes {S : Type 0} (sums : S → Table → Type 0) (places : ℕ) (notes : Notes S) : Type 0 where
  pub len : length notes.rows.items ≡ places
  pub summed : sums notes.sum (table_of notes.rows.items)
