use Rattle.std.proofs.Common.{◌≡◌, Ok, sym, ap, ◌∙◌}
use Rattle.design_bundle.specs.FourTexts.{four}
use Rattle.design_bundle.specs.Bundle.{bundle_text}
use Rattle.diagnosis.specs.Bundle.{bundle_reading}
use Rattle.diagnosis.proofs.PackedReads.{packed_reads}
use Rattle.diagnosis.proofs.design.design_with.Goals as goal

-- The bundle stands for what the texts stand for.
pub whole-requires-clause-stands : goal.whole-requires-clause-stands
whole-requires-clause-stands c =
    let texts = four c.args.parts.profile c.args.netlist.now c.args.scan.now c.args.patterns.now c.args.neighbours.now in
    let text : c.in-Ok.named.text ≡ bundle_text texts = c.in-Ok.ensures.text ∙ ap (λ profile. bundle_text (four profile c.args.netlist.now c.args.scan.now c.args.patterns.now c.args.neighbours.now)) c.profile.ensures.value in
    ap bundle_reading text ∙ packed_reads texts c.args.parts c.requires.stands ∙ ap Ok (sym c.in_ok-made.ensures.parts)
