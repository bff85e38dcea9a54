use Rattle.std.proofs.Common.{◌≡◌, [], map, take, slice_index_or}
use Rattle.fail_logs.specs.Frames.{rows_view}
use Rattle.fail_logs.proofs.groups.copied.Given as goal

abbrev pub invariant-loop-place : goal.invariant-loop-place
invariant-loop-place l = l.copies.items ≡ map (λ r. slice_index_or (rows_view l.rows) r []) (take l.place-index l.places)
