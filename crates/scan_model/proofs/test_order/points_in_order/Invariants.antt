use Rattle.std.proofs.Common.{◌≡◌, ◌++◌, map}
use Rattle.std.specs.Prelude.{flat_map}
use Rattle.std.specs.List.{range_with_len}
use Rattle.scan_model.specs.declared.parts.Point.TheVariants.{Output}
use Rattle.scan_model.specs.ScanTest.{cycle}
use Rattle.scan_model.proofs.test_order.points_in_order.Given as goal

abbrev pub invariant-loop-number : goal.invariant-loop-number
invariant-loop-number l = l.points ≡ map Output (range_with_len 0 l.outputs) ++ flat_map (λ n. cycle n 0 l.chains) (range_with_len 0 l.number)
