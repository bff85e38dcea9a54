use Rattle.scan_model.specs.TestOrder.{CycleGoesOn}
use Rattle.scan_model.proofs.test_order.add_cycle.Given as goal

abbrev pub invariant-loop-h : goal.invariant-loop-h
invariant-loop-h l = CycleGoesOn l.number l.chains l.fn.points l.points l.h
