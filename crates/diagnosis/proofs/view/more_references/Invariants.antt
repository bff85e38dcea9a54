use Rattle.std.proofs.Common.{◌≡◌, map, take}
use Rattle.std.specs.Arc.{arc_value}
use Rattle.diagnosis.proofs.view.more_references.Given as goal

abbrev pub invariant-loop-log : goal.invariant-loop-log
invariant-loop-log l = map (λ log. arc_value log) l.copies ≡ map (λ log. arc_value log) (take l.log-index l.logs)
