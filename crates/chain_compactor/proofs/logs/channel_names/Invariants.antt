use Rattle.std.proofs.Common.{◌≡◌, map, take}
use Rattle.chain_compactor.proofs.logs.channel_names.Given as goal

abbrev pub invariant-loop-channel : goal.invariant-loop-channel
invariant-loop-channel l = l.names ≡ map (λ x. x.name) (take l.channel-index l.channels)
