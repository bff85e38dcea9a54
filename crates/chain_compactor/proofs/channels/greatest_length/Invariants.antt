use Rattle.std.proofs.Common.{◌≡◌, max, map, drop}
use Rattle.compact_points.specs.Channels.{greatest}
use Rattle.chain_compactor.specs.ChannelReading.{length_in}
use Rattle.chain_compactor.proofs.channels.greatest_length.Given as goal

abbrev pub invariant-loop-number : goal.invariant-loop-number
invariant-loop-number l = max l.most (greatest (map (length_in l.chains) (drop l.number-index l.numbers))) ≡ greatest (map (length_in l.chains) l.numbers)
