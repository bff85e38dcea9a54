use Rattle.std.proofs.Common.{◌≡◌, map, take, replicate}
use Rattle.fail_logs.specs.Frames.{rows_view}
use Rattle.fail_logs.proofs.tables.blank_rows.Given as goal

abbrev pub invariant-loop-length : goal.invariant-loop-length
invariant-loop-length l = rows_view l.rows.items ≡ map (λ n. replicate n 0) (take l.length-index l.lengths)
