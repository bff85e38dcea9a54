use Rattle.std.proofs.Common.{◌≡◌, ℕ, ◌+◌, ◌-◌, subst, arith}
use Rattle.scan_model.specs.Marks.{is_marked}
use Rattle.scan_model.specs.Walks.{IsEvaluationOrder}
use Rattle.scan_model.proofs.FanSweeps.{IsSpread, spread_more}
use Rattle.scan_model.proofs.cones.mark_fan_in.Goals as goal

pub loop-k-preserved : goal.loop-k-preserved
loop-k-preserved c =
    let circuit = c.args.circuit.now in
    let order = c.as_slice-order.result.now in
    let ordered : IsEvaluationOrder circuit order = rw c.as_slice-order.ensures c.order.ensures in
    let one : c.loop-k.k ≡ (c.loop-k.k - 1) + 1 = omega arith in
    let before : IsSpread circuit order c.args.net ((c.loop-k.k - 1) + 1) (is_marked c.loop-k.marks) = subst (λ (k : ℕ). IsSpread circuit order c.args.net k (is_marked c.loop-k.marks)) one c.loop-k.invariant.spread in
    record {
      within = omega (arith, c.loop-k.invariant.within);
      spread = spread_more circuit order c.nets.ensures.circuit.netlist ordered c.args.net (c.loop-k.k - 1) (is_marked c.loop-k.marks) (is_marked c.spread.new.marks) c.requires.net (omega (arith, c.loop-k.invariant.within)) before c.spread.ensures;
    }
