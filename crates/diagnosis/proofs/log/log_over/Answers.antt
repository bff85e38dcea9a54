use Rattle.std.proofs.Common.{◌≡◌, ◌∙◌, Ok, refl, sym, ap, subst}
use Rattle.scan_model.specs.LogText.{log_frame, log_reading}
use Rattle.diagnosis.specs.Designs.{ReadLogFacts}
use Rattle.diagnosis.specs.Cases.{IsLogOver}
use Rattle.diagnosis.proofs.log.log_over.Goals as goal

pub returns-clause-reading : goal.returns-clause-reading
returns-clause-reading c =
    let reads = log_reading (log_frame c.args.parts.now c.args.design.now c.args.die.now) in
    ap reads (sym c.as_slice.ensures) ∙ c.in_ok-facts.ensures.reading ∙ sym (ap (λ (log : ReadLogFacts). Ok log.facts) c.in_ok-make.ensures)

pub returns-clause-log : goal.returns-clause-log
returns-clause-log c =
    let reads = log_reading (log_frame c.args.parts.now c.args.design.now c.args.die.now) in
    let reading : reads c.args.text ≡ Ok c.in_ok-facts.facts = ap reads (sym c.as_slice.ensures) ∙ c.in_ok-facts.ensures.reading in
    subst (IsLogOver c.args.parts.now c.args.design.now c.args.die.now) (sym c.in_ok-make.ensures)
    (record { of_design = refl; of_die = refl; stands = reading })
