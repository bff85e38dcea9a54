use Rattle.std.proofs.Common.{rules, ◌≡◌, Err, refl}
use Rattle.design_bundle.specs.Sections.{four_texts}
use Rattle.diagnosis.specs.ReadDesigns.{shown_design}
use Rattle.diagnosis.specs.Bundle.{texts_source}
use Rattle.diagnosis.proofs.Halting.{test_stands, is_refused}
use Rattle.diagnosis.proofs.texts.read_texts.Goals as goal

pub returns-in_err-design-clause-fault : goal.returns-in_err-design-clause-fault
returns-in_err-design-clause-fault c =
    let is : c.from_residual.result ≡ Err c.in_err-design.field-0.0 = search rules in
    let texts = four_texts c.args.texts.now in
    rw is (is_refused texts c.in_err-design.field-0.0 (c.in_err-design.ensures.told (texts_source texts) refl))

pub returns-clause-stands : goal.returns-clause-stands
returns-clause-stands c =
    let texts = four_texts c.args.texts.now in
    rw c.into_parts.ensures (test_stands texts (shown_design (λ text. text.now) c.in_ok-design.design) (c.in_ok-design.ensures.told (texts_source texts) refl))
