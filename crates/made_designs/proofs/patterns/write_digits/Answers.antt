use Rattle.std.proofs.Common.{◌+◌, [], ap, ◌∙◌, arith}
use Rattle.std.proofs.lemmas.List.{length-set, take_more_set}
use Rattle.made_designs.proofs.MoreDraws.{state_more, digit_more}
use Rattle.made_designs.proofs.patterns.write_digits.Goals as goal

pub loop-place-preserved : goal.loop-place-preserved
loop-place-preserved c =
    let k = c.loop-place.place in
    let xs = c.loop-place.digits in
    record {
      len = length-set xs k (48 + c.draw.result) ∙ c.loop-place.invariant.len;
      state = λ seed i at. state_more seed i k c.loop-place.draws.state c.draw.new.self.state (c.loop-place.invariant.state seed i at) c.draw.ensures.state;
      digits = λ seed i at.
          let next = state_more seed i k c.loop-place.draws.state c.draw.new.self.state (c.loop-place.invariant.state seed i at) c.draw.ensures.state in
          digit_more seed i k c.draw.new.self.state (48 + c.draw.result) [] _ _ next (ap (λ x. 48 + x) c.draw.ensures.value) (c.loop-place.invariant.digits seed i at)
          (take_more_set xs k (48 + c.draw.result) (omega (arith, c.loop-place.invariant.len)));
    }
