use Rattle.std.proofs.Common.{◌<◌, length, sym, ap, ◌∙◌, subst}
use Rattle.sha2.specs.Sha256.{sha256}
use Rattle.diagnosis.specs.Designs.{DesignFacts, ViewFacts, view_report}
use Rattle.die_entries.specs.Entries.{arc_values}
use Rattle.die_entries.proofs.digests.digest_of.Goals as goal

pub check_report-requires-after_bounds : goal.check_report-requires-after_bounds
check_report-requires-after_bounds g c κs within = subst (λ (v : ViewFacts). 0 < length v.logs) (sym c.in_ok-view.ensures) c.requires.showable.some

pub returns : goal.returns
returns g c = c.digest.ensures.value ∙ ap (λ (v : ViewFacts). sha256 (view_report v)) (c.in_ok-checked.ensures ∙ c.in_ok-view.ensures)

pub returns-in-Some : goal.returns-in-Some
returns-in-Some g c =
    c.in-Some.ensures ∙ ap (λ (d : DesignFacts). sha256 (view_report (record { design = d; die = c.args.die.now; logs = arc_values c.args.logs.now }))) c.deref.ensures
