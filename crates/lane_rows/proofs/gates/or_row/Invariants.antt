use Rattle.std.proofs.Common.{◌≡◌, ℕ, ◌<◌, map, take}
use Rattle.scan_model.specs.Values.{or_of}
use Rattle.value_rows.specs.Planes.{held}
use Rattle.lane_rows.proofs.gates.or_row.Given as goal

abbrev pub invariant-loop-operand : goal.invariant-loop-operand
invariant-loop-operand g l = (j : ℕ) → j < 512 → held l.row j ≡ or_of (map (λ s. g.V.NetRows.value l.values (g.S.SeesNet.seen_net s) j) (take l.operand-index l.operands))
