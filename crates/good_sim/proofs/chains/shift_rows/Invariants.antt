use Rattle.std.proofs.Common.{◌≡◌, [], map}
use Rattle.std.specs.Prelude.{slice_index_or}
use Rattle.std.specs.List.{range_with_len}
use Rattle.good_sim.specs.Shifts.{shifted}
use Rattle.good_sim.proofs.chains.shift_rows.Given as goal

abbrev pub invariant-loop-chain : goal.invariant-loop-chain
invariant-loop-chain l = l.moved.items ≡ map (λ h. shifted l.direction l.fault h (slice_index_or l.rows h [])) (range_with_len 0 l.chain)
