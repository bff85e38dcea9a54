use Rattle.std.proofs.Common.{◌∙◌, ap}
use Rattle.diagnosis.specs.Cases.{CaseFacts}
use Rattle.diagnosis.proofs.case_logs.CaseLogs.read_beside.Goals as goal

pub returns-clause-reading : goal.returns-clause-reading
returns-clause-reading g c =
    rw (← ap (λ (k : CaseFacts). k.test) c.self.view_is, ← (c.as_slice.ensures ∙ ap (λ (k : CaseFacts). k.design) c.self.view_is), ← (c.as_slice-2.ensures ∙ ap (λ (k : CaseFacts). k.die) c.self.view_is))
    c.read_and_simulated.ensures.reading
