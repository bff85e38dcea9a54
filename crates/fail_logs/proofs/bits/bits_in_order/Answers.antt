use Rattle.std.proofs.Common.{ℕ, ◌*◌, ◌<◌}
use Rattle.fail_logs.proofs.BitOrder.{All-rising}
use Rattle.fail_logs.proofs.bits.bits_in_order.Goals as goal

pub bits_numbered-requires-clause-numbers : goal.bits_numbered-requires-clause-numbers
bits_numbered-requires-clause-numbers c = rw c.deref.ensures.value (All-rising (λ (n : ℕ). n < 4096 * c.args.points) c.args.numbers.items c.rising-rising.result.items c.rising-rising.ensures c.requires.numbers)
