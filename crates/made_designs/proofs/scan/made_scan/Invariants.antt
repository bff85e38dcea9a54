use Rattle.std.proofs.Common.{◌≡◌}
use Rattle.std.specs.Prelude.{flat_map}
use Rattle.std.specs.List.{range_with_len}
use Rattle.made_laws.specs.MadeScan.{chain_line}
use Rattle.made_designs.proofs.scan.made_scan.Given as goal

abbrev pub invariant-loop-chain : goal.invariant-loop-chain
invariant-loop-chain l = l.text ≡ flat_map (chain_line l.blocks) (range_with_len 0 l.chain)
