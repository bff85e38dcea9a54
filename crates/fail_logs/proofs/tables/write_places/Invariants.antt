use Rattle.std.proofs.Common.{◌≡◌, drop}
use Rattle.fail_logs.specs.Frames.{rows_view}
use Rattle.fail_logs.specs.Places.{places_in}
use Rattle.fail_logs.proofs.tables.write_places.Given as goal

abbrev pub invariant-loop-k : goal.invariant-loop-k
invariant-loop-k l = places_in (rows_view l.rows) l.k (drop l.k l.points) ≡ places_in (rows_view l.fn.rows) 0 l.points
