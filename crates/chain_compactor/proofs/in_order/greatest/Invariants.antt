use Rattle.std.proofs.Common.{◌≡◌, max, drop}
use Rattle.compact_points.specs.Channels.{greatest as model_greatest}
use Rattle.chain_compactor.proofs.in_order.greatest.Given as goal

abbrev pub invariant-loop-number : goal.invariant-loop-number
invariant-loop-number l = max l.most (model_greatest (drop l.number-index l.numbers)) ≡ model_greatest l.numbers
