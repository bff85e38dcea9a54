use Rattle.std.proofs.Common.{◌≡◌, Global, List, refl, sym, ap, subst, map}
use Rattle.std.specs.Arc.{arc_value}
use Rattle.std.specs.declared.sync.Arc.{Arc}
use Rattle.scan_model.specs.Response.{expected_rows}
use Rattle.packed_sim.specs.PackedParts.{BelongsTo}
use Rattle.diagnosis.specs.declared.log.ReadLog.{ReadLog}
use Rattle.diagnosis.specs.Designs.{ReadLogFacts}
use Rattle.diagnosis.specs.Cases.{CaseFacts, IsWholeCase}
use Rattle.diagnosis.proofs.Cases.{case_with, same_case}
use Rattle.diagnosis.proofs.case_logs.CaseLogs.subject.Goals as goal

abbrev shown : List (Arc ReadLog Global) → List ReadLogFacts
shown logs = map (λ (log : Arc ReadLog Global). arc_value log) logs

pub returns-clause-whole : goal.returns-clause-whole
returns-clause-whole c =
    let k = c.self.inside in
    let made = c.args.simulation.now in
    let same = same_case (case_with k.parts.now k.design k.die (shown k.logs)) k.parts.now c.as_slice.result.now c.as_slice-2.result.now (shown c.as_slice-3.result.now)
    refl c.as_slice.ensures c.as_slice-2.ensures (ap shown c.as_slice-3.ensures) in
    let Belongs : CaseFacts → Type 0 = λ k. BelongsTo k.test made.good in
    let Responds : CaseFacts → Type 0 = λ k. made.expected ≡ expected_rows k.test in
    let whole : IsWholeCase (case_with k.parts.now k.design k.die (shown k.logs)) made.good made.expected = record {
      case = c.self.invariant;
      good_of_test = subst Belongs (sym c.self.view_is) c.requires.good;
      expected_of_test = subst Responds (sym c.self.view_is) c.requires.expected;
    } in
    subst (λ (k : CaseFacts). IsWholeCase k made.good made.expected) (sym same) whole
