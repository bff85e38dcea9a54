use Rattle.std.proofs.Common.{◌≡◌}
use Rattle.die_entries.proofs.ahead.add_texts.Given as goal

abbrev pub invariant-loop-text : goal.invariant-loop-text
invariant-loop-text l = l.view.design ≡ l.fn.view.design
