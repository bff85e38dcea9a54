use Rattle.std.proofs.Common.{◌≡◌, ◌++◌}
use Rattle.std.specs.Prelude.{flat_map, codes}
use Rattle.std.specs.List.{range_with_len}
use Rattle.made_laws.specs.MadePairs.{pair_line}
use Rattle.made_designs.proofs.pairs.made_pairs.Given as goal

abbrev pub invariant-loop-block : goal.invariant-loop-block
invariant-loop-block l = l.text ≡ codes "net_a,net_b\n" ++ flat_map pair_line (range_with_len 0 l.block)
