use Rattle.std.proofs.Common.{◌*◌}
use Rattle.expected_values.specs.ResponseWords.{AreResponseWords}
use Rattle.expected_values.proofs.expected.push_block.Given as goal

abbrev pub invariant-loop-word : goal.invariant-loop-word
invariant-loop-word g l = AreResponseWords (g.S.ResponseRows.table l.shown) l.places (l.word * l.places) l.words
