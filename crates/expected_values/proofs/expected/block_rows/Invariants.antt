use Rattle.expected_values.specs.ResponseWords.{ShowsBlock}
use Rattle.expected_values.proofs.expected.block_rows.Given as goal

abbrev pub invariant-loop-place : goal.invariant-loop-place
invariant-loop-place g l = ShowsBlock (g.S.ResponseRows.table l.shown) l.place l.block l.rows.items
