use Rattle.std.proofs.Common.{◌≡◌}
use Rattle.scan_model.specs.declared.evaluation.Mark.TheVariants.{Fresh}
use Rattle.scan_model.specs.GateSearch.{wiring, mark_at, steps_left, IsSearch}
use Rattle.scan_model.proofs.evaluation.Search.visit.Given as goal

abbrev pub invariant-loop-gate : goal.invariant-loop-gate
invariant-loop-gate l = record {
  search : IsSearch (wiring l.nets l.pins) l.root l.self;
  begun : mark_at l.self.marks l.root ≡ Fresh → ⊥;
}

abbrev pub decreases-loop-gate : goal.decreases-loop-gate
decreases-loop-gate l = steps_left l.self
