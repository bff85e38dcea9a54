use Rattle.std.proofs.Common.{◌*◌, ◌-◌}
use Rattle.work_crew.proofs.crew.+crew.Given as goal

abbrev pub decreases-crew : goal.decreases-crew
decreases-crew g l = 2 * l.threads

abbrev pub decreases-others : goal.decreases-others
decreases-others g l = 2 * l.threads - 1
