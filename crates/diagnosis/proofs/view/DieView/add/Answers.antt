use Rattle.std.proofs.Common.{Global, List, ap, sym, subst, map}
use Rattle.std.specs.Arc.{arc_value}
use Rattle.std.specs.declared.sync.Arc.{Arc}
use Rattle.std.proofs.lemmas.Result.{IfOk-weaker, on_err_weaker}
use Rattle.diagnosis.specs.declared.put.Put.{Put}
use Rattle.diagnosis.specs.declared.log.ReadLog.{ReadLog}
use Rattle.diagnosis.specs.Designs.{ReadLogFacts, ViewFacts, IsLogOf}
use Rattle.diagnosis.specs.LogAddition.{Added}
use Rattle.diagnosis.specs.Cases.{AddedAmong}
use Rattle.diagnosis.proofs.Views.{view_with, view_after, view_added}
use Rattle.diagnosis.proofs.view.DieView.add.Goals as goal

abbrev shown : List (Arc ReadLog Global) → List ReadLogFacts
shown logs = map (λ (log : Arc ReadLog Global). arc_value log) logs

pub invariant_of-self : goal.invariant_of-self
invariant_of-self c =
    let v = view_with (arc_value c.self.inside.design) c.self.inside.die (shown c.self.inside.logs) in
    let log = arc_value c.args.log in
    view_after v log c.push_log.result (shown c.push_log.new.logs) c.self.invariant
    (subst (λ (w : ViewFacts). IsLogOf w.design w.die log) (sym c.self.view_is) c.requires)
    c.push_log.ensures.added (on_err_weaker c.push_log.result (ap shown) c.push_log.ensures.err)

pub returns-clause-added : goal.returns-clause-added
returns-clause-added c =
    let v = view_with (arc_value c.self.inside.design) c.self.inside.die (shown c.self.inside.logs) in
    let log = arc_value c.args.log in
    let new = shown c.push_log.new.logs in
    IfOk-weaker c.push_log.result (λ (put : Put). AddedAmong put log v.logs new) (λ (put : Put). Added put log c.args.self.now (view_with v.design v.die new))
    (λ put added. subst (λ (w : ViewFacts). Added put log w (view_with v.design v.die new)) c.self.view_is (view_added v log put new added))
    c.push_log.ensures.added
