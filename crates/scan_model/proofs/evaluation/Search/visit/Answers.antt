use Rattle.std.proofs.Common.{ap}
use Rattle.scan_model.specs.GateSearch.{State, wiring}
use Rattle.scan_model.proofs.GateSteps.{begins}
use Rattle.scan_model.proofs.evaluation.Search.visit.Goals as goal

pub loop-gate-init : goal.loop-gate-init
loop-gate-init c =
    let at = begins (wiring c.args.nets.now c.args.pins.now) c.args.root c.args.self.now c.enter.new.self c.self.inside.marks.items c.index.result.now c.requires.rest c.requires.root (ap (λ (s : State). s.marks) c.self.view_is) c.index.ensures c.in-Fresh.is c.in_ok-enter.ensures in
    record { search = at.0; begun = at.1 }
