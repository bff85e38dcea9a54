use Rattle.std.proofs.Common.{true, ◌∙◌}
use Rattle.std.proofs.lemmas.List.{length-set}
use Rattle.scan_model.specs.Marks.{is_marked}
use Rattle.scan_model.specs.Walks.{IsEvaluationOrder}
use Rattle.scan_model.proofs.FanSweeps.{swept_all, mark_swept}
use Rattle.scan_model.proofs.cones.mark_fan_out.Goals as goal

pub loop-gate-preserved : goal.loop-gate-preserved
loop-gate-preserved c =
    let ordered : IsEvaluationOrder c.args.circuit.now c.as_slice-order.result.now = rw c.as_slice-order.ensures c.order.ensures in
    mark_swept c.args.circuit.now c.as_slice-order.result.now c.nets.ensures.circuit.netlist ordered c.args.net c.loop-gate.gate-index c.loop-gate.marks c.is_reached-marked.result c.requires.net (c.loop-gate.auto.marks ∙ length-set c.args.marks.now c.args.net true ∙ c.requires.marks) c.loop-gate-test.true c.loop-gate.invariant c.is_reached-marked.ensures

pub returns : goal.returns
returns c =
    let ordered : IsEvaluationOrder c.args.circuit.now c.as_slice-order.result.now = rw c.as_slice-order.ensures c.order.ensures in
    swept_all c.args.circuit.now c.as_slice-order.result.now c.nets.ensures.circuit.netlist ordered c.args.net c.loop-gate.gate-index (is_marked c.loop-gate.marks) c.loop-gate-test.false c.loop-gate.invariant
