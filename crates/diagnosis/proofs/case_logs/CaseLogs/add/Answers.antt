use Rattle.std.proofs.Common.{subst}
use Rattle.diagnosis.specs.Designs.{ReadLogFacts}
use Rattle.diagnosis.specs.Cases.{AddedAmong}
use Rattle.diagnosis.proofs.Cases.{log_is}
use Rattle.diagnosis.proofs.case_logs.CaseLogs.add.Goals as goal

pub returns-clause-added : goal.returns-clause-added
returns-clause-added c =
    let old = c.args.self.now in
    let log = c.in_ok-log.log in
    let Added : ReadLogFacts → Type 0 = λ log. AddedAmong c.in_ok-push.field-0 log old.logs c.push.new.self.logs in
    record {
      facts = log.facts;
      reads = c.in_ok-log.ensures.reading;
      added = subst Added (log_is old log c.args.text c.in_ok-log.ensures.log c.in_ok-log.ensures.text) c.in_ok-push.ensures.added;
    }
