use Rattle.std.proofs.Common.{◌≡◌, ◌++◌, map}
use Rattle.std.specs.Prelude.{flat_map}
use Rattle.std.specs.List.{range_with_len}
use Rattle.scan_model.specs.declared.parts.Point.TheVariants.{Output}
use Rattle.compact_points.specs.Channels.{shown_in}
use Rattle.chain_compactor.proofs.in_order.points_over.Given as goal

abbrev pub invariant-loop-number : goal.invariant-loop-number
invariant-loop-number l = l.points ≡ map Output (range_with_len 0 l.outputs) ++ flat_map (λ u. shown_in u 0 l.cycles) (range_with_len 0 l.number)
