use Rattle.std.proofs.Common.{◌∙◌, ap, sym}
use Rattle.sha2.specs.Sha256.{sha256}
use Rattle.diagnosis.specs.Designs.{view_report}
use Rattle.diagnosis.proofs.checked.check_report.Goals as goal

pub by_digest-requires-clause-digest : goal.by_digest-requires-clause-digest
by_digest-requires-clause-digest g c =
    c.digest_of-digest.ensures ∙ ap sha256 (c.in_ok-report.ensures.report ∙ ap view_report (sym c.in_ok-view.ensures))
