use Rattle.std.proofs.Common.{◌∙◌, rules, Global, List, map, ap, sym, subst}
use Rattle.std.specs.Arc.{arc_value}
use Rattle.std.specs.declared.sync.Arc.{Arc}
use Rattle.diagnosis.specs.declared.log.ReadLog.{ReadLog}
use Rattle.diagnosis.specs.Designs.{IsView}
use Rattle.diagnosis.proofs.Views.{same_view}
use Rattle.diagnosis.proofs.view.DieView.copy.Goals as goal

pub invariant_of-result : goal.invariant_of-result
invariant_of-result c =
    subst IsView (sym (same_view c.args.self.now (arc_value c.in_ok-design.design) c.in_ok-die.die (map (λ log. arc_value log) c.in_ok-logs.logs)
    (search rules) (search rules) (c.in_ok-logs.ensures ∙ ap (λ (logs : List (Arc ReadLog Global)). map (λ (log : Arc ReadLog Global). arc_value log) logs) c.as_slice.ensures ∙ c.logs.ensures.logs))) c.revision-revision.ensures.view

pub returns : goal.returns
returns c =
    same_view c.args.self.now (arc_value c.in_ok-design.design) c.in_ok-die.die (map (λ log. arc_value log) c.in_ok-logs.logs)
    (search rules) (search rules) (c.in_ok-logs.ensures ∙ ap (λ (logs : List (Arc ReadLog Global)). map (λ (log : Arc ReadLog Global). arc_value log) logs) c.as_slice.ensures ∙ c.logs.ensures.logs)
