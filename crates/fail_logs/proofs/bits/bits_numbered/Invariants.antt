use Rattle.std.proofs.Common.{◌≡◌, map, take}
use Rattle.fail_logs.specs.BitNumbers.{bit_numbered}
use Rattle.fail_logs.proofs.bits.bits_numbered.Given as goal

abbrev pub invariant-loop-n : goal.invariant-loop-n
invariant-loop-n l = l.bits.items ≡ map (bit_numbered l.points) (take l.n-index l.numbers)
