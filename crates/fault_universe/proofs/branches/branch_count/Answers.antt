use Rattle.std.proofs.Common.{sym, arith}
use Rattle.fault_universe.proofs.BranchPlaces.{length-branches_of}
use Rattle.fault_universe.proofs.branches.branch_count.Goals as goal

pub returns-clause-count : goal.returns-clause-count
returns-clause-count c = rw c.branch_pins.ensures.pins (sym (length-branches_of _))

pub returns-clause-few : goal.returns-clause-few
returns-clause-few c = rw (← c.branch_pins.ensures.pins) (omega (arith, length-branches_of c.branch_pins.result.now, c.branch_pins.ensures.few))
