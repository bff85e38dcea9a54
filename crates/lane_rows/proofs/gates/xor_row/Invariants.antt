use Rattle.std.proofs.Common.{◌≡◌, ℕ, ◌<◌, map, take}
use Rattle.scan_model.specs.Values.{xor_of}
use Rattle.value_rows.specs.Lanes.{lane}
use Rattle.value_rows.specs.Planes.{value_known}
use Rattle.lane_rows.proofs.gates.xor_row.Given as goal

abbrev pub invariant-loop-operand : goal.invariant-loop-operand
invariant-loop-operand g l = (j : ℕ) → j < 512 → value_known (lane l.known j) (lane l.odd j) ≡ xor_of (map (λ s. g.V.NetRows.value l.values (g.S.SeesNet.seen_net s) j) (take l.operand-index l.operands))
