use Rattle.diagnosis.proofs.Cases.{case_without_logs}
use Rattle.diagnosis.proofs.case.Case.whole.Goals as goal

pub invariant_of-result : goal.invariant_of-result
invariant_of-result c =
    let names = c.args.made.names in
    rw c.new.ensures (record {
      case = case_without_logs c.args.parts names.design names.die c.requires.design c.requires.die;
      good_of_test = c.requires.good;
      expected_of_test = c.requires.expected;
    })
