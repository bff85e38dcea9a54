use Rattle.diagnosis.proofs.Cases.{case_without_logs}
use Rattle.diagnosis.proofs.case_logs.CaseLogs.make.Goals as goal

pub invariant_of-result : goal.invariant_of-result
invariant_of-result c =
    rw (c.new.ensures, c.in_ok-design.ensures, c.in_ok-die.ensures) (case_without_logs c.args.parts.now c.args.design.now c.args.die.now c.requires.design c.requires.die)
