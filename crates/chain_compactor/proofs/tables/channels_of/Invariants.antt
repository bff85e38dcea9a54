use Rattle.std.proofs.Common.{◌≡◌}
use Rattle.std.specs.Prelude.{filter}
use Rattle.std.specs.List.{range_with_len}
use Rattle.compact_points.specs.Channels.{channel_at}
use Rattle.chain_compactor.specs.ObservationPoints.{has_chain}
use Rattle.chain_compactor.proofs.tables.channels_of.Given as goal

abbrev pub invariant-loop-x : goal.invariant-loop-x
invariant-loop-x l = l.channels.items ≡ filter (λ x. has_chain (channel_at l.compact.channels x).chains l.chain) (range_with_len 0 l.x)
