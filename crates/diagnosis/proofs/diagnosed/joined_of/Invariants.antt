use Rattle.std.proofs.Common.{map, take}
use Rattle.std.specs.Arc.{arc_value}
use Rattle.log_join.specs.Joining.{StandsFor, IsJoinedOf}
use Rattle.diagnosis.specs.Designs.{facts_of}
use Rattle.diagnosis.proofs.diagnosed.joined_of.Given as goal

abbrev pub invariant-loop-log : goal.invariant-loop-log
invariant-loop-log l = record {
  size : IsJoinedOf l.patterns l.points l.joined;
  stands : StandsFor (facts_of (map (λ log. arc_value log) (take l.log-index l.logs))) l.joined;
}
