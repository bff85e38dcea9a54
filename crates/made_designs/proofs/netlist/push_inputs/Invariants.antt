use Rattle.std.proofs.Common.{◌≡◌, ◌++◌}
use Rattle.std.specs.Prelude.{flat_map}
use Rattle.std.specs.List.{range_with_len}
use Rattle.made_laws.specs.MadeNetlist.{input_line}
use Rattle.made_designs.proofs.netlist.push_inputs.Given as goal

abbrev pub invariant-loop-input : goal.invariant-loop-input
invariant-loop-input l = l.text ≡ l.initial.text ++ flat_map (input_line l.block) (range_with_len 0 l.input)
