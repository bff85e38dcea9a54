use Rattle.std.proofs.Common.{◌≡◌, map}
use Rattle.std.specs.List.{range_with_len}
use Rattle.fail_logs.specs.Frames.{rows_view}
use Rattle.chain_compactor.specs.ObservationPoints.{nets_of}
use Rattle.chain_compactor.proofs.tables.nets_of_all.Given as goal

abbrev pub invariant-loop-chain : goal.invariant-loop-chain
invariant-loop-chain l = rows_view l.rows.items ≡ map (nets_of l.parts) (range_with_len 0 l.chain)
