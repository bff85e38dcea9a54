use Rattle.std.proofs.Common.{◌≡◌, ◌++◌, drop}
use Rattle.compact_points.specs.Channels.{shown_in}
use Rattle.chain_compactor.proofs.in_order.add_cycle.Given as goal

abbrev pub invariant-loop-x : goal.invariant-loop-x
invariant-loop-x l = l.points ++ shown_in l.number l.x (drop l.x l.cycles) ≡ l.fn.points ++ shown_in l.number 0 l.cycles
