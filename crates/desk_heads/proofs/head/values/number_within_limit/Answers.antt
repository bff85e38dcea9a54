use Rattle.std.proofs.Common.{arith}
use Rattle.text_parts.proofs.Digits.{number_so_far}
use Rattle.desk_heads.proofs.head.values.number_within_limit.Goals as goal

pub returns-then-number-gt-BODY_LIMIT-clause-number : goal.returns-then-number-gt-BODY_LIMIT-clause-number
returns-then-number-gt-BODY_LIMIT-clause-number c = omega (arith, number_so_far c.args.digits.now c.loop-digit.digit-index c.loop-digit.number _ c.loop-digit-test.true c.loop-digit.invariant.so_far)
