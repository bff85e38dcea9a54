use Rattle.std.proofs.Common.{◌≡◌, ◌++◌}
use Rattle.std.specs.Prelude.{flat_map}
use Rattle.std.specs.List.{range_with_len}
use Rattle.made_laws.specs.MadeNetlist.{block_inputs}
use Rattle.made_designs.proofs.netlist.push_all_inputs.Given as goal

abbrev pub invariant-loop-block : goal.invariant-loop-block
invariant-loop-block l = l.text ≡ l.initial.text ++ flat_map block_inputs (range_with_len 0 l.block)
