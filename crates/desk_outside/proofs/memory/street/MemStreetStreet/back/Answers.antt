use Rattle.std.proofs.Common.{refl, arith}
use Rattle.desk_outside.specs.StreetMemory.{street_told}
use Rattle.desk_outside.proofs.memory.street.MemStreetStreet.back.Goals as goal

pub overflow_sub-self : goal.overflow_sub-self
overflow_sub-self c = let out = c.requires (street_told c.args.self.now) refl in omega arith
