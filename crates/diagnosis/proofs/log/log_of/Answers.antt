use Rattle.std.proofs.Common.{rules, ◌≡◌, ◌∙◌, Ok, Err, refl, sym, ap, subst}
use Rattle.scan_model.specs.LogText.{log_frame, log_reading}
use Rattle.diagnosis.specs.Designs.{ReadLogFacts, IsLogOf}
use Rattle.diagnosis.proofs.log.log_of.Goals as goal

pub returns-in_err-facts-clause-reading : goal.returns-in_err-facts-clause-reading
returns-in_err-facts-clause-reading c =
    let is : c.from_residual.result ≡ Err c.in_err-facts.field-0.0 = search rules in
    rw is (rw (c.parts.ensures.value, c.name.ensures.value) at c.in_err-facts.ensures.reading)

pub returns-clause-reading : goal.returns-clause-reading
returns-clause-reading c =
    let reading : log_reading (log_frame c.args.design.now.test c.args.design.now.name c.args.die.now) c.args.bytes.now ≡ Ok c.in_ok-facts.facts =
    rw (c.parts.ensures.value, c.name.ensures.value) at c.in_ok-facts.ensures.reading in
    reading ∙ sym (ap (λ (log : ReadLogFacts). Ok log.facts) c.in_ok-make.ensures)

pub returns-clause-log : goal.returns-clause-log
returns-clause-log c =
    let reading : log_reading (log_frame c.args.design.now.test c.args.design.now.name c.args.die.now) c.args.bytes.now ≡ Ok c.in_ok-facts.facts =
    rw (c.parts.ensures.value, c.name.ensures.value) at c.in_ok-facts.ensures.reading in
    subst (IsLogOf c.args.design.now c.args.die.now) (sym c.in_ok-make.ensures)
    (record { of_design = c.name-2.ensures.value; of_die = refl; stands = rw (c.name-2.ensures.value, c.in_ok-text.ensures) reading })
