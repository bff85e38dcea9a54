use Rattle.diag_report.specs.PredictedLog.{fault_of}
use Rattle.diag_report.proofs.OwnLog.{explains_own_log}
use Rattle.diag_report.proofs.fails.fails_text.Goals as goal

pub returns-in_err-good-clause-counts : goal.returns-in_err-good-clause-counts
returns-in_err-good-clause-counts c = explains_own_log c.args.parts.now (fault_of c.args.parts.now c.args.place)
