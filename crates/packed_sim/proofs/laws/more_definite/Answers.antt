use Rattle.scan_model.proofs.MoreDefinite.{net_value-at_least, response-at_least}
use Rattle.packed_sim.proofs.laws.more_definite.Goals as goal

pub returns-clause-gates : goal.returns-clause-gates
returns-clause-gates c w v n fault more = net_value-at_least c.args.parts.now w v more fault n

pub returns-clause-points : goal.returns-clause-points
returns-clause-points c w v fault more = response-at_least c.args.parts.now w v more fault
