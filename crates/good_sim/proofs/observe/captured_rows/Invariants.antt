use Rattle.std.proofs.Common.{◌≡◌, take}
use Rattle.scan_model.specs.ChainShift.{value_at}
use Rattle.single_faults.specs.Effect.{forces}
use Rattle.good_sim.specs.PointValues.{captured_rows_over}
use Rattle.good_sim.proofs.observe.captured_rows.Given as goal

abbrev pub invariant-loop-chain : goal.invariant-loop-chain
invariant-loop-chain l = l.rows.items ≡ captured_rows_over l.circuit (forces l.effect) (value_at l.values) (take l.chain-index l.chains)
