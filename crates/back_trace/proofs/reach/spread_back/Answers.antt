use Rattle.std.proofs.Common.{◌≡◌, ◌∙◌, ℕ, ◌+◌, ◌-◌, refl, subst, arith}
use Rattle.scan_model.specs.Walks.{IsEvaluationOrder}
use Rattle.explained_lanes.specs.Traces.{lane_at}
use Rattle.explained_lanes.proofs.SweptBack.{IsSweptBack, swept_back_none, swept_back_more, swept_back_all}
use Rattle.back_trace.proofs.reach.spread_back.Goals as goal

pub loop-k-preserved : goal.loop-k-preserved
loop-k-preserved c =
    let circuit = c.args.circuit.now in
    let order = c.as_slice-order.result.now in
    let ordered : IsEvaluationOrder circuit order = rw c.as_slice-order.ensures c.order.ensures in
    let one : c.loop-k.k ≡ (c.loop-k.k - 1) + 1 = omega arith in
    record {
      within = omega (arith, c.loop-k.invariant.within);
      len = c.spread.ensures.len ∙ c.loop-k.invariant.len;
      swept = λ j lj.
          let before : IsSweptBack circuit order (lane_at c.args.rows.now j) ((c.loop-k.k - 1) + 1) (lane_at c.loop-k.rows j) =
          subst (λ (k : ℕ). IsSweptBack circuit order (lane_at c.args.rows.now j) k (lane_at c.loop-k.rows j)) one (c.loop-k.invariant.swept j lj) in
          swept_back_more circuit order c.nets.ensures.circuit.netlist ordered (lane_at c.args.rows.now j) (c.loop-k.k - 1) (lane_at c.loop-k.rows j) (lane_at c.spread.new.rows j) (omega (arith, c.loop-k.invariant.within)) before
          (λ m. c.in_ok-spread.ensures.lanes j m lj);
    }

pub loop-k-init : goal.loop-k-init
loop-k-init c =
    let circuit = c.args.circuit.now in
    let order = c.as_slice-order.result.now in
    let ordered : IsEvaluationOrder circuit order = rw c.as_slice-order.ensures c.order.ensures in
    record { within = omega arith; len = refl; swept = λ j lj. swept_back_none circuit order c.nets.ensures.circuit.netlist ordered (lane_at c.args.rows.now j) }

pub returns-clause-lanes : goal.returns-clause-lanes
returns-clause-lanes c = λ j n lj ln.
    let circuit = c.args.circuit.now in
    let order = c.as_slice-order.result.now in
    let ordered : IsEvaluationOrder circuit order = rw c.as_slice-order.ensures c.order.ensures in
    let done : c.loop-k.k ≡ 0 = omega arith in
    swept_back_all circuit order c.nets.ensures.circuit.netlist ordered (lane_at c.args.rows.now j) (lane_at c.loop-k.rows j)
    (subst (λ (k : ℕ). IsSweptBack circuit order (lane_at c.args.rows.now j) k (lane_at c.loop-k.rows j)) done (c.loop-k.invariant.swept j lj)) n ln
