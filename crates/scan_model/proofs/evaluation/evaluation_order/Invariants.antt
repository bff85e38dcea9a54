use Rattle.scan_model.specs.GateSearch.{wiring, IsAtRest}
use Rattle.scan_model.proofs.evaluation.evaluation_order.Given as goal

abbrev pub invariant-loop-root : goal.invariant-loop-root
invariant-loop-root l = IsAtRest (wiring l.nets l.pins) l.root l.search
