use Rattle.std.proofs.Common.{Global, List, refl, sym, ap, subst, map}
use Rattle.std.specs.Arc.{arc_value}
use Rattle.std.specs.declared.sync.Arc.{Arc}
use Rattle.diagnosis.specs.declared.log.ReadLog.{ReadLog}
use Rattle.diagnosis.specs.Designs.{ReadLogFacts}
use Rattle.diagnosis.specs.Cases.{CaseFacts, IsWholeCase}
use Rattle.diagnosis.proofs.Cases.{case_with, same_case}
use Rattle.diagnosis.proofs.case.Case.subject.Goals as goal

abbrev shown : List (Arc ReadLog Global) → List ReadLogFacts
shown logs = map (λ (log : Arc ReadLog Global). arc_value log) logs

pub returns-clause-whole : goal.returns-clause-whole
returns-clause-whole c =
    let k = c.self.inside in
    let same = same_case (case_with k.parts k.design k.die (shown k.logs)) k.parts c.as_slice.result.now c.as_slice-2.result.now (shown c.as_slice-3.result.now)
    refl c.as_slice.ensures c.as_slice-2.ensures (ap shown c.as_slice-3.ensures) in
    subst (λ (k : CaseFacts). IsWholeCase k c.self.inside.good c.self.inside.expected) (sym same) c.self.invariant
