use Rattle.std.proofs.Common.{◌≡◌, IfSome, subst}
use Rattle.sha2.specs.Sha256.{sha256}
use Rattle.diagnosis.specs.Designs.{ViewFacts, view_report}
use Rattle.die_entries.proofs.ahead.Foreseen.digest.Goals as goal

pub returns : goal.returns
returns c = subst (λ (v : ViewFacts). IfSome c.self.inside.digest (λ digest. digest ≡ sha256 (view_report v))) c.self.view_is c.self.invariant
