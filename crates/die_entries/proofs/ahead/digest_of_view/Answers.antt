use Rattle.std.proofs.Common.{ap, ◌∙◌}
use Rattle.sha2.specs.Sha256.{sha256}
use Rattle.diagnosis.specs.Designs.{ViewFacts, view_report}
use Rattle.die_entries.proofs.ahead.digest_of_view.Goals as goal

pub returns-in-Ok : goal.returns-in-Ok
returns-in-Ok g c = c.digest.ensures.value ∙ ap (λ (v : ViewFacts). sha256 (view_report v)) c.in-Ok.ensures
