use Rattle.std.proofs.Common.{◌≡◌, ℕ, ◌+◌, ◌≤◌, List, length, Option}
use Rattle.desk_outside.specs.declared.deed.Deed.{Deed}
use Rattle.book.specs.RowsAhead.{AreAnswers}
use Rattle.book.proofs.ahead.asking.ask.Given as goal

abbrev pub invariant-loop-row : goal.invariant-loop-row
invariant-loop-row g l = record {
  answers : (told : Option (List Deed)) (before : ℕ) → g.K.Keeper.rows l.fn.keeper ≡ told → before ≤ g.K.Keeper.faults l.fn.keeper → AreAnswers told before (g.K.Keeper.faults l.keeper) l.fn.first l.answers.items;
  count : l.row ≡ l.fn.first + length l.answers.items;
  same : g.K.Keeper.rows l.keeper ≡ g.K.Keeper.rows l.fn.keeper;
  later : g.K.Keeper.faults l.fn.keeper ≤ g.K.Keeper.faults l.keeper;
}
