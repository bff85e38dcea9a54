use Rattle.std.proofs.Common.{◌≡◌, ◌++◌}
use Rattle.std.specs.Prelude.{flat_map}
use Rattle.std.specs.List.{range_with_len}
use Rattle.made_laws.specs.MadeNetlist.{output_line}
use Rattle.made_designs.proofs.netlist.push_outputs.Given as goal

abbrev pub invariant-loop-output : goal.invariant-loop-output
invariant-loop-output l = l.text ≡ l.initial.text ++ flat_map (output_line l.block) (range_with_len 90 l.output)
