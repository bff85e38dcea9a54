use Rattle.std.proofs.Common.{refl}
use Rattle.good_sim.proofs.force.effect_of.Goals as goal

pub returns-in-None-clause-forces : goal.returns-in-None-clause-forces
returns-in-None-clause-forces c = rw c.in-None.is refl

pub returns-in-Some-Cell-clause-forces : goal.returns-in-Some-Cell-clause-forces
returns-in-Some-Cell-clause-forces c = let is = rw c.in-Some-Cell.is at c.in-Some-Cell.field-0-is in rw (c.in-Some-Cell.is, is) refl
