use Rattle.std.proofs.Common.{subst, sym, ap}
use Rattle.scan_model.specs.GateSearch.{State, wiring, IsAtRest}
use Rattle.scan_model.specs.Walks.{IsEvaluationOrder}
use Rattle.scan_model.proofs.GateOrder.{search_starts, search_ends}
use Rattle.scan_model.proofs.evaluation.evaluation_order.Goals as goal

pub loop-root-init : goal.loop-root-init
loop-root-init c = subst (λ (s : State). IsAtRest (wiring c.args.nets.now c.args.pins.now) 0 s) (sym c.in_ok-search.ensures) (search_starts (wiring c.args.nets.now c.args.pins.now))

pub returns-clause-ok : goal.returns-clause-ok
returns-clause-ok c =
    let whole = search_ends (wiring c.args.nets.now c.args.pins.now) c.loop-root.root c.loop-root.search c.loop-root-test.false c.loop-root.invariant.search in
    subst (IsEvaluationOrder (wiring c.args.nets.now c.args.pins.now)) (sym (ap (λ (s : State). s.order) c.search-2.view_is)) whole
