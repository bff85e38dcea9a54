use Rattle.std.proofs.Common.{ℕ, ap, ◌∙◌}
use Rattle.scan_model.specs.Values.{tri_or}
use Rattle.value_rows.specs.Planes.{held}
use Rattle.lane_rows.proofs.GateFolds.{or_more}
use Rattle.lane_rows.proofs.gates.or_row.Goals as goal

pub loop-operand-preserved : goal.loop-operand-preserved
loop-operand-preserved g c j lt =
    or_more (λ s. g.V.NetRows.value c.args.values.now (g.S.SeesNet.seen_net s) j) c.args.operands.now c.loop-operand.operand-index c.operand-item.result
    (held c.loop-operand.row j) (held c.or-row.result j) c.loop-operand-test.true c.operand-item.is (c.loop-operand.invariant j lt)
    (c.or-row.ensures j lt ∙ ap (tri_or (held c.loop-operand.row j)) (c.row.ensures j lt ∙ ap (λ (n : ℕ). g.V.NetRows.value c.args.values.now n j) c.net.ensures))
