use Rattle.std.proofs.Common.{All}
use Rattle.book.specs.RowsAhead.{IsDesignIn}
use Rattle.book.proofs.ahead.views.dies_ahead.Given as goal

abbrev pub invariant-loop-place : goal.invariant-loop-place
invariant-loop-place l = All (λ die. IsDesignIn l.kept.deeds die.design) l.dies.items
