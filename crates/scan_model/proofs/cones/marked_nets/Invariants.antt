use Rattle.std.proofs.Common.{◌≡◌}
use Rattle.std.specs.Prelude.{filter}
use Rattle.std.specs.List.{range_with_len}
use Rattle.scan_model.specs.Marks.{is_marked}
use Rattle.scan_model.proofs.cones.marked_nets.Given as goal

abbrev pub invariant-loop-n : goal.invariant-loop-n
invariant-loop-n l = l.nets ≡ filter (is_marked l.marks) (range_with_len 0 l.n)
