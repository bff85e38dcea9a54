use Rattle.std.proofs.Common.{◌≡◌, ◌≤◌, List, [], length, take, All, true, Some}
use Rattle.desk_outside.specs.declared.deed.Deed.{Deed}
use Rattle.book.specs.LegalDeeds.{each_fits}
use Rattle.book.specs.RowsAhead.{AreAnswers, IsDesignIn}
use Rattle.book.proofs.opening.read_rows.Given as goal

abbrev pub invariant-loop-row : goal.invariant-loop-row
invariant-loop-row g l = record {
  fit : each_fits [] l.kept.deeds ≡ true;
  count : length l.kept.deeds ≡ l.row;
  rows : (rows : List Deed) → g.K.Keeper.rows l.fn.keeper ≡ Some rows → l.kept.deeds ≡ take l.row rows;
  answers : AreAnswers (g.K.Keeper.rows l.fn.keeper) (g.K.Keeper.faults l.fn.keeper) (g.K.Keeper.faults l.keeper) l.row l.ahead.answers.items;
  foreseen : All (λ die. IsDesignIn l.kept.deeds die.design) l.ahead.foreseen.items;
  same : g.K.Keeper.rows l.keeper ≡ g.K.Keeper.rows l.fn.keeper;
  later : g.K.Keeper.faults l.fn.keeper ≤ g.K.Keeper.faults l.keeper;
}
