use Rattle.std.proofs.Common.{ap, ◌∙◌}
use Rattle.design_bundle.specs.FourTexts.{four}
use Rattle.design_bundle.specs.Bundle.{bundle_text}
use Rattle.diagnosis.specs.Bundle.{texts_reading}
use Rattle.diagnosis.proofs.AreRead.{profile_read}
use Rattle.diagnosis.proofs.design.design_of.Goals as goal

-- The parts have the profile that was given.
pub design_with-requires-clause-stands : goal.design_with-requires-clause-stands
design_with-requires-clause-stands c =
    let given = four c.args.profile c.args.netlist.now c.args.scan.now c.args.patterns.now c.args.neighbours.now in
    ap (λ profile. texts_reading (four profile c.args.netlist.now c.args.scan.now c.args.patterns.now c.args.neighbours.now)) (profile_read given c.in_ok-parts.parts c.in_ok-parts.ensures.stands)
    ∙ c.in_ok-parts.ensures.stands

pub returns-clause-text : goal.returns-clause-text
returns-clause-text c =
    let given = four c.args.profile c.args.netlist.now c.args.scan.now c.args.patterns.now c.args.neighbours.now in
    c.in_ok-design.ensures.text
    ∙ ap (λ profile. bundle_text (four profile c.args.netlist.now c.args.scan.now c.args.patterns.now c.args.neighbours.now)) (profile_read given c.in_ok-parts.parts c.in_ok-parts.ensures.stands)
