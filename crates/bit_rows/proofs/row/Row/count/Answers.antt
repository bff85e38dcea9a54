use Rattle.std.proofs.Common.{◌+◌, ◌*◌, ◌∙◌, sym, arith}
use Rattle.bit_rows.specs.Lanes.{lane}
use Rattle.bit_rows.proofs.LaneCounts.{count_more, count_bound, count_lanes_is}
use Rattle.bit_rows.proofs.row.Row.count.Goals as goal

pub overflow_add-count : goal.overflow_add-count
overflow_add-count c =
    let more = count_more c.to_words-words.result c.loop-k.k c.loop-k-test.element_fits.fits in
    record { fits = omega (arith, c.loop-k.invariant, more, c.loop-k-test.true, count_bound (lane c.to_words-words.result) (64 * (c.loop-k.k + 1))) }

pub loop-k-preserved : goal.loop-k-preserved
loop-k-preserved c = omega (arith, c.loop-k.invariant, count_more c.to_words-words.result c.loop-k.k c.loop-k-test.element_fits.fits)

pub returns : goal.returns
returns c = rw (← c.to_words-words.ensures.words) (c.loop-k.invariant ∙ sym (count_lanes_is (lane c.to_words-words.result) (64 * c.loop-k.k) (omega (arith, c.loop-k.auto.k-end, c.loop-k-test.false))))
