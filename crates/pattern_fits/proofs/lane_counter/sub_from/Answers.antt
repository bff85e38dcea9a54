use Rattle.std.proofs.Common.{◌≡◌, ℕ, ◌+◌, ◌*◌, ◌&&◌, List, not, length, ap, sym, ◌∙◌, arith}
use Rattle.std.proofs.lemmas.List.{length-set}
use Rattle.bit_rows.specs.Lanes.{lane, differ}
use Rattle.pattern_fits.specs.LaneNumbers.{value, weight, one}
use Rattle.pattern_fits.proofs.Carries.{borrow_on, no_borrow, none_borrowed, value_room}
use Rattle.pattern_fits.proofs.lane_counter.sub_from.Goals as goal

pub loop-i-preserved : goal.loop-i-preserved
loop-i-preserved c = record {
  len = length-set c.loop-i.slices c.loop-i.i c.xor.result ∙ c.loop-i.invariant.len;
  sum = λ j lt. borrow_on (value c.args.slices.now j) (one (lane c.args.lanes j)) c.loop-i.slices c.loop-i.i c.xor.result c.and-borrow.result c.loop-i.borrow _ j
      (omega (arith, c.loop-i-test.true)) (c.xor.ensures j lt ∙ ap (λ (s : List ℕ). differ (lane s j) (lane c.loop-i.borrow j)) c.index-slices-i.is) (c.and-borrow.ensures j lt ∙ ap (λ b. b && lane c.loop-i.borrow j) (c.not.ensures j lt) ∙ ap (λ (s : List ℕ). not (lane s j) && lane c.loop-i.borrow j) c.index-slices-i.is) (c.loop-i.invariant.sum j lt);
}

pub returns-then-is_empty : goal.returns-then-is_empty
returns-then-is_empty c = λ j lt.
    none_borrowed (value c.loop-i.slices j + one (lane c.args.lanes j)) (weight c.loop-i.i) (value c.args.slices.now j) (lane c.loop-i.borrow j) (c.is_empty.ensures.empty c.if-is_empty.true j lt) (c.loop-i.invariant.sum j lt)

pub returns : goal.returns
returns c = λ j lt.
    let end : c.loop-i.i ≡ length c.loop-i.slices = omega (arith, c.loop-i.invariant.len, c.loop-i.auto.i-end, c.loop-i-test.false) in
    let is = c.loop-i.invariant.sum j lt ∙ ap (λ (n : ℕ). value c.args.slices.now j + weight n * one (lane c.loop-i.borrow j)) end in
    no_borrow (value c.loop-i.slices j) (weight (length c.loop-i.slices)) (one (lane c.args.lanes j)) (value c.args.slices.now j) (lane c.loop-i.borrow j) is (c.requires j lt) (value_room c.loop-i.slices j)
