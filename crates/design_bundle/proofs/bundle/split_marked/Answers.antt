use Rattle.std.proofs.Common.{◌≡◌, [], ◌∷◌, drop, ap, ◌∙◌}
use Rattle.design_bundle.specs.Bundle.{sections}
use Rattle.design_bundle.proofs.BundleFaults.{marks_fault_by_lines, texts_in_four}
use Rattle.design_bundle.proofs.bundle.split_marked.Goals as goal

-- each section has the first text that is left, and the end has none
pub returns-clause-good : goal.returns-clause-good
returns-clause-good c =
    let a = c.in_ok-netlist.netlist.now in
    let b = c.in_ok-scan.scan.now in
    let d = c.in_ok-patterns.patterns.now in
    let e = c.in_ok-neighbours.neighbours.now in
    let texts : drop 1 (sections c.args.bytes.now) ≡ a ∷ b ∷ d ∷ e ∷ [] =
    c.in_ok-netlist.ensures.texts
    ∙ ap (λ more. a ∷ more) c.in_ok-scan.ensures.texts
    ∙ ap (λ more. a ∷ b ∷ more) c.in_ok-patterns.ensures.texts
    ∙ ap (λ more. a ∷ b ∷ d ∷ more) c.in_ok-neighbours.ensures.texts
    ∙ ap (λ more. a ∷ b ∷ d ∷ e ∷ more) c.in_ok-end.ensures.texts in (
      marks_fault_by_lines c.args.bytes.now ∙ c.in_ok-netlist.ensures.fault ∙ c.in_ok-scan.ensures.fault ∙ c.in_ok-patterns.ensures.fault ∙ c.in_ok-neighbours.ensures.fault ∙ c.in_ok-end.ensures.fault,
      texts_in_four c.args.profile c.args.bytes.now a b d e texts,
    )
