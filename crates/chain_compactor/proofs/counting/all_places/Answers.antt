use Rattle.std.proofs.Common.{◌∷◌, ◌++◌, List, [], ℕ, length, sym, ap, ◌∙◌, arith}
use Rattle.std.proofs.lemmas.List.FromFn.{length-range_with_len}
use Rattle.fault_universe.proofs.BitSteps.{range_more}
use Rattle.chain_compactor.proofs.counting.all_places.Goals as goal

pub loop-place-preserved : goal.loop-place-preserved
loop-place-preserved c = c.in_ok-push.ensures.items ∙ ap (λ (ys : List ℕ). ys ++ c.loop-place.place ∷ []) c.loop-place.invariant ∙ sym (range_more c.loop-place.place)

pub returns-clause-few : goal.returns-clause-few
returns-clause-few c = omega (arith, ap length c.loop-place.invariant, length-range_with_len 0 c.loop-place.place)
