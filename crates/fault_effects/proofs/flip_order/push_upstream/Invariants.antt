use Rattle.std.specs.Prelude.{◌<◌, All, length}
use Rattle.fault_effects.proofs.flip_order.push_upstream.Given as goal

abbrev pub invariant-loop-i : goal.invariant-loop-i
invariant-loop-i l = All (λ n. n < length l.parts.netlist.nets) l.due.items
