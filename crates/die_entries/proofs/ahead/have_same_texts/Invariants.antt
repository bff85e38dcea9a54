use Rattle.std.proofs.Common.{◌≡◌, length}
use Rattle.diagnosis.specs.Designs.{texts_of}
use Rattle.die_entries.specs.Entries.{arc_values}
use Rattle.die_entries.proofs.ahead.have_same_texts.Given as goal

abbrev pub invariant-loop-log : goal.invariant-loop-log
invariant-loop-log l =
    texts_of (arc_values l.rest) ≡ texts_of (arc_values l.other_rest) → texts_of (arc_values l.logs) ≡ texts_of (arc_values l.others)

abbrev pub decreases-loop-log : goal.decreases-loop-log
decreases-loop-log l = length l.rest
