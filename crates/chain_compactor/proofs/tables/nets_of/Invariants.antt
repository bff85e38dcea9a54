use Rattle.std.proofs.Common.{◌≡◌, map}
use Rattle.std.specs.List.{range_with_len}
use Rattle.scan_model.specs.declared.parts.Point.TheVariants.{Cell}
use Rattle.scan_model.specs.Suspect.{observed_net}
use Rattle.chain_compactor.proofs.tables.nets_of.Given as goal

abbrev pub invariant-loop-pos : goal.invariant-loop-pos
invariant-loop-pos l = l.nets.items ≡ map (λ i. observed_net l.parts (Cell l.chain i)) (range_with_len 0 l.pos)
