use Rattle.std.proofs.Common.{Global, List, ap, sym, subst, map}
use Rattle.std.specs.Arc.{arc_value}
use Rattle.std.specs.declared.sync.Arc.{Arc}
use Rattle.std.proofs.lemmas.Result.{on_err_weaker}
use Rattle.diagnosis.specs.declared.log.ReadLog.{ReadLog}
use Rattle.diagnosis.specs.Designs.{ReadLogFacts}
use Rattle.diagnosis.specs.Cases.{CaseFacts, IsLogOver}
use Rattle.diagnosis.proofs.Cases.{case_with, case_after}
use Rattle.diagnosis.proofs.case_logs.CaseLogs.push.Goals as goal

abbrev shown : List (Arc ReadLog Global) → List ReadLogFacts
shown logs = map (λ (log : Arc ReadLog Global). arc_value log) logs

pub invariant_of-self : goal.invariant_of-self
invariant_of-self c =
    let k = case_with c.self.inside.parts.now c.self.inside.design c.self.inside.die (shown c.self.inside.logs) in
    let log = arc_value c.in_ok-log.log in
    let Fits : CaseFacts → Type 0 = λ k. IsLogOver k.test k.design k.die log in
    let of = subst Fits (sym c.self.view_is) (rw c.in_ok-log.ensures.ok c.requires) in
    case_after k log c.self.invariant of c.push_log.result (shown c.push_log.new.logs) c.push_log.ensures.added (on_err_weaker c.push_log.result (ap shown) c.push_log.ensures.err)
