use Rattle.std.proofs.Common.{ℕ, ap, ◌∙◌}
use Rattle.scan_model.specs.Values.{tri_xor}
use Rattle.value_rows.specs.Lanes.{lane}
use Rattle.value_rows.specs.Planes.{held, value_known}
use Rattle.value_rows.proofs.LaneValues.{xor_known}
use Rattle.lane_rows.proofs.GateFolds.{xor_more}
use Rattle.lane_rows.proofs.gates.xor_row.Goals as goal

pub loop-operand-preserved : goal.loop-operand-preserved
loop-operand-preserved g c j lt =
    let k = lane c.loop-operand.known j in
    let o = lane c.loop-operand.odd j in
    xor_more (λ s. g.V.NetRows.value c.args.values.now (g.S.SeesNet.seen_net s) j) c.args.operands.now c.loop-operand.operand-index c.operand-item.result
    (value_known k o) (value_known (lane c.and-known.result j) (lane c.xor-odd.result j)) c.loop-operand-test.true c.operand-item.is (c.loop-operand.invariant j lt)
    (rw (c.and-known.ensures j lt, c.xor-odd.ensures j lt, c.known.ensures j lt, c.ones.ensures j lt) (xor_known k o (held c.row-row.result j))
    ∙ ap (tri_xor (value_known k o)) (c.row-row.ensures j lt ∙ ap (λ (n : ℕ). g.V.NetRows.value c.args.values.now n j) c.net.ensures))
