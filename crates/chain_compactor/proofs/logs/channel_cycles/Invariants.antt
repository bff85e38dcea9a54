use Rattle.std.proofs.Common.{◌≡◌, ◌≤◌, ◌+◌, ◌-◌, length, map, take}
use Rattle.std.specs.Prelude.{vec_len, vec_capacity}
use Rattle.compact_points.specs.Channels.{greatest}
use Rattle.chain_compactor.specs.ChannelReading.{length_in}
use Rattle.chain_compactor.proofs.logs.channel_cycles.Given as goal

abbrev pub invariant-loop-channel : goal.invariant-loop-channel
invariant-loop-channel l = record {
  room : vec_len l.cycles + (length l.channels - l.channel-index) ≤ vec_capacity l.cycles;
  cycles : l.cycles.items ≡ map (λ x. greatest (map (length_in l.chains) x.chains)) (take l.channel-index l.channels);
}
