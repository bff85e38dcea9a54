use Rattle.std.proofs.Common.{arith}
use Rattle.scan_model.proofs.WordMasks.{all_ones, low_ones}
use Rattle.scan_model.proofs.masks.low_bits.Goals as goal

pub returns-then-count-eq64 : goal.returns-then-count-eq64
returns-then-count-eq64 c = λ j lt. all_ones c.args.count j c.if-count-eq64.true lt

pub returns-else-count-eq64 : goal.returns-else-count-eq64
returns-else-count-eq64 c = λ j lt. low_ones c.args.count j (omega arith)
