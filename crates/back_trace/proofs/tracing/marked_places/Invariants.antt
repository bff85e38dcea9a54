use Rattle.std.proofs.Common.{◌≡◌}
use Rattle.std.specs.Prelude.{filter}
use Rattle.std.specs.List.{range_with_len}
use Rattle.scan_model.specs.Marks.{is_marked}
use Rattle.back_trace.proofs.tracing.marked_places.Given as goal

abbrev pub invariant-loop-place : goal.invariant-loop-place
invariant-loop-place l = l.places ≡ filter (is_marked l.marks) (range_with_len 0 l.place)
