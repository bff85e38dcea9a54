use Rattle.std.proofs.Common.{arith}
use Rattle.text_parts.proofs.Digits.{number_so_far}
use Rattle.text_parts.proofs.numbers.digits_number.Goals as goal

pub returns-then-next-gt4294967295 : goal.returns-then-next-gt4294967295
returns-then-next-gt4294967295 c = omega (arith, number_so_far c.args.word.now c.loop-b.b-index c.loop-b.n _ c.loop-b-test.true c.loop-b.invariant.rest)
