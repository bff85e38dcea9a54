use Rattle.std.proofs.Common.{◌+◌, ◌*◌, ◌/◌, min}
use Rattle.expected_values.specs.ResponseWords.{AreResponseWords}
use Rattle.expected_values.proofs.expected.expected_of.Given as goal

abbrev pub invariant-loop-block : goal.invariant-loop-block
invariant-loop-block g l = AreResponseWords (g.S.ResponseRows.table l.shown) l.places (min (8 * l.block) ((l.patterns + 63) / 64) * l.places) l.words
