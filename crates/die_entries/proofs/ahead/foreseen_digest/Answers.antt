use Rattle.std.proofs.Common.{◌≡◌, ℕ, List, IfSome, sym, ◌∙◌, subst}
use Rattle.std.proofs.lemmas.List.Elements.{All-get_or}
use Rattle.sha2.specs.Sha256.{sha256}
use Rattle.diagnosis.specs.Designs.{DesignFacts, ViewFacts}
use Rattle.die_entries.specs.Entries.{arc_values}
use Rattle.die_entries.specs.Revisions.{IsOneByName}
use Rattle.die_entries.proofs.SameViews.{same_report}
use Rattle.die_entries.proofs.ahead.foreseen_digest.Goals as goal

pub returns-then-is_of : goal.returns-then-is_of
returns-then-is_of c =
    let d : DesignFacts = c.args.design.now in
    let found : ViewFacts = c.report-item.result in
    let asked : ViewFacts = record { design = d; die = c.args.die.now; logs = arc_values c.args.logs.now } in
    let named : found.design.name ≡ d.name = c.is_of.ensures.name c.if-is_of.true ∙ c.name.ensures.value in
    let one : IsOneByName d found = subst (IsOneByName d) (sym c.report-item.is) (All-get_or (IsOneByName d) c.args.foreseen.now c.loop-report.report-index found c.loop-report-test.true c.requires) in
    subst (λ (report : List ℕ). IfSome c.digest.result (λ digest. digest ≡ sha256 report)) (same_report found asked named (one named) (c.is_of.ensures.die c.if-is_of.true) (c.is_of.ensures.texts c.if-is_of.true)) c.digest.ensures
