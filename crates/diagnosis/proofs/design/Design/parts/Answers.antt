use Rattle.std.proofs.Common.{subst}
use Rattle.diag_report.specs.PredictedLog.{HasWordNames}
use Rattle.diagnosis.specs.Designs.{DesignFacts}
use Rattle.diagnosis.proofs.WordNames.{bundle_word_names}
use Rattle.diagnosis.proofs.design.Design.parts.Goals as goal

pub returns-clause-names : goal.returns-clause-names
returns-clause-names c =
    subst (λ (d : DesignFacts). HasWordNames d.test) c.self.view_is
    (bundle_word_names c.self.inside.text c.self.inside.parts c.self.invariant.design.stands)
