use Rattle.std.proofs.Common.{◌≡◌, subst}
use Rattle.sha2.specs.Sha256.{sha256}
use Rattle.diagnosis.specs.Designs.{ViewFacts, view_report}
use Rattle.diagnosis.proofs.checked.CheckedView.digest.Goals as goal

pub returns-clause-value : goal.returns-clause-value
returns-clause-value c = subst (λ (v : ViewFacts). c.self.inside.digest ≡ sha256 (view_report v)) c.self.view_is c.self.invariant.0
