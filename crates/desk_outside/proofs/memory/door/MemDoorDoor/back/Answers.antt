use Rattle.std.proofs.Common.{refl, arith}
use Rattle.desk_outside.specs.DoorMemory.{door_told}
use Rattle.desk_outside.proofs.memory.door.MemDoorDoor.back.Goals as goal

pub overflow_sub-self : goal.overflow_sub-self
overflow_sub-self c = let out = c.requires (door_told c.args.self.now) refl in omega arith
