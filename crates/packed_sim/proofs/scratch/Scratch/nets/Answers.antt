use Rattle.packed_sim.proofs.Belonging.{own_row, row_of_own}
use Rattle.packed_sim.proofs.scratch.Scratch.nets.Goals as goal

pub returns-clause-all : goal.returns-clause-all
returns-clause-all c n = (λ listed. own_row _ ((c.nets.ensures.all n).0 listed), λ owned. (c.nets.ensures.all n).1 (row_of_own _ owned))
