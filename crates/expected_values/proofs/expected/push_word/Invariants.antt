use Rattle.std.proofs.Common.{◌+◌, ◌*◌, ◌/◌, List, length}
use Rattle.scan_model.specs.declared.values.Tri.{Tri}
use Rattle.expected_values.specs.ResponseWords.{AreResponseWords, ShowsBlock}
use Rattle.expected_values.proofs.expected.push_word.Given as goal

abbrev pub invariant-loop-row : goal.invariant-loop-row
invariant-loop-row l = (table : List (List Tri)) → ShowsBlock table (length l.rows) (l.word / 8) l.rows → AreResponseWords table (length l.rows) (l.word * length l.rows) l.fn.words
    → AreResponseWords table (length l.rows) (l.word * length l.rows + l.row-index) l.words
