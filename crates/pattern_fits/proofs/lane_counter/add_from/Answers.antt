use Rattle.std.proofs.Common.{◌≡◌, ℕ, ◌+◌, ◌*◌, ◌&&◌, List, length, ap, sym, ◌∙◌, arith}
use Rattle.std.proofs.lemmas.List.{length-set}
use Rattle.bit_rows.specs.Lanes.{lane, differ}
use Rattle.pattern_fits.specs.LaneNumbers.{value, weight, one}
use Rattle.pattern_fits.proofs.Carries.{carry_on, no_carry, none_carried}
use Rattle.pattern_fits.proofs.lane_counter.add_from.Goals as goal

pub loop-i-preserved : goal.loop-i-preserved
loop-i-preserved c = record {
  len = length-set c.loop-i.slices c.loop-i.i c.xor.result ∙ c.loop-i.invariant.len;
  sum = λ j lt. carry_on (value c.args.slices.now j + one (lane c.args.lanes j)) c.loop-i.slices c.loop-i.i c.xor.result c.and-carry.result c.loop-i.carry _ j
      (omega (arith, c.loop-i-test.true)) (c.xor.ensures j lt ∙ ap (λ (s : List ℕ). differ (lane s j) (lane c.loop-i.carry j)) c.index-slices-i.is) (c.and-carry.ensures j lt ∙ ap (λ (s : List ℕ). lane s j && lane c.loop-i.carry j) c.index-slices-i.is) (c.loop-i.invariant.sum j lt);
}

pub returns-then-is_empty : goal.returns-then-is_empty
returns-then-is_empty c = λ j lt.
    none_carried (value c.loop-i.slices j) (weight c.loop-i.i) (value c.args.slices.now j + one (lane c.args.lanes j)) (lane c.loop-i.carry j) (c.is_empty.ensures.empty c.if-is_empty.true j lt) (c.loop-i.invariant.sum j lt)

pub returns : goal.returns
returns c = λ j lt.
    let end : c.loop-i.i ≡ length c.args.slices.now = omega (arith, c.loop-i.invariant.len, c.loop-i.auto.i-end, c.loop-i-test.false) in
    let is = ap (λ (n : ℕ). value c.loop-i.slices j + weight n * one (lane c.loop-i.carry j)) (sym end) ∙ c.loop-i.invariant.sum j lt in
    no_carry (value c.loop-i.slices j) (weight (length c.args.slices.now)) (value c.args.slices.now j + one (lane c.args.lanes j)) (lane c.loop-i.carry j) is (c.requires j lt)
