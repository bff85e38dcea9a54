use Rattle.std.proofs.Common.{◌/◌, ◌%◌, ◌==◌, ◌∙◌, arith}
use Rattle.std.specs.Int.{bit_at}
use Rattle.value_rows.specs.Planes.{held}
use Rattle.lane_rows.proofs.WordValues.{replaced, replaced_apart}
use Rattle.lane_rows.proofs.value_word.with_values.Goals as goal

pub of_rows-requires : goal.of_rows-requires
of_rows-requires c = λ j lt.
    rw (c.with_word-ones.ensures j lt, c.with_word-zeros.ensures j lt, c.ones.ensures j lt, c.zeros.ensures j lt, c.ones-2.ensures, c.zeros-2.ensures.zeros)
    (replaced_apart (j / 64 == c.args.at) (bit_at c.args.word.ones (j % 64) == 1) (bit_at c.args.word.zeros (j % 64) == 1) (held c.args.row j) (c.zeros-2.ensures.apart (j % 64) (omega arith)))

pub returns : goal.returns
returns c = λ j lt.
    c.of_rows.ensures j lt
    ∙ rw (c.with_word-ones.ensures j lt, c.with_word-zeros.ensures j lt, c.ones.ensures j lt, c.zeros.ensures j lt, c.ones-2.ensures, c.zeros-2.ensures.zeros)
    (replaced (j / 64 == c.args.at) (bit_at c.args.word.ones (j % 64) == 1) (bit_at c.args.word.zeros (j % 64) == 1) (held c.args.row j))
