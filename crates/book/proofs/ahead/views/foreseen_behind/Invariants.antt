use Rattle.book.specs.RowsAhead.{IsDesignIn}
use Rattle.book.proofs.ahead.views.foreseen_behind.Given as goal

abbrev pub invariant-loop-row : goal.invariant-loop-row
invariant-loop-row l = IsDesignIn l.kept.deeds l.die.design
