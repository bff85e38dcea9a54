use Rattle.std.proofs.Common.{◌≡◌, ◌∙◌, ℕ, ◌+◌, ◌-◌, refl, subst, arith}
use Rattle.scan_model.specs.Marks.{is_marked}
use Rattle.scan_model.specs.Walks.{IsEvaluationOrder}
use Rattle.explained_lanes.proofs.SweptBack.{IsSweptBack, swept_back_none, swept_back_more, swept_back_all}
use Rattle.two_frame.proofs.reach.spread_back.Goals as goal

pub loop-k-init : goal.loop-k-init
loop-k-init c =
    let circuit = c.args.circuit.now in
    let order = c.as_slice-order.result.now in
    let ordered : IsEvaluationOrder circuit order = rw c.as_slice-order.ensures c.order.ensures in
    record { within = omega arith; len = refl; swept = swept_back_none circuit order c.nets.ensures.circuit.netlist ordered (is_marked c.args.marks.now) }

pub loop-k-preserved : goal.loop-k-preserved
loop-k-preserved c =
    let circuit = c.args.circuit.now in
    let order = c.as_slice-order.result.now in
    let targets = is_marked c.args.marks.now in
    let ordered : IsEvaluationOrder circuit order = rw c.as_slice-order.ensures c.order.ensures in
    let one : c.loop-k.k ≡ (c.loop-k.k - 1) + 1 = omega arith in
    let before : IsSweptBack circuit order targets ((c.loop-k.k - 1) + 1) (is_marked c.loop-k.marks) = subst (λ (k : ℕ). IsSweptBack circuit order targets k (is_marked c.loop-k.marks)) one c.loop-k.invariant.swept in
    record {
      within = omega (arith, c.loop-k.invariant.within);
      len = c.spread.auto.marks ∙ c.loop-k.invariant.len;
      swept = swept_back_more circuit order c.nets.ensures.circuit.netlist ordered targets (c.loop-k.k - 1) (is_marked c.loop-k.marks) (is_marked c.spread.new.marks) (omega (arith, c.loop-k.invariant.within)) before c.spread.ensures;
    }

pub returns : goal.returns
returns c =
    let circuit = c.args.circuit.now in
    let order = c.as_slice-order.result.now in
    let targets = is_marked c.args.marks.now in
    let ordered : IsEvaluationOrder circuit order = rw c.as_slice-order.ensures c.order.ensures in
    let done : c.loop-k.k ≡ 0 = omega arith in
    swept_back_all circuit order c.nets.ensures.circuit.netlist ordered targets (is_marked c.loop-k.marks)
    (subst (λ (k : ℕ). IsSweptBack circuit order targets k (is_marked c.loop-k.marks)) done c.loop-k.invariant.swept)
