use Rattle.std.proofs.Common.{rules, ℕ, subst}
use Rattle.std.specs.Prelude.{IsPermutation}
use Rattle.std.proofs.lemmas.List.Sorted.{answers_always, IsNonDecreasingBy-from_sort}
use Rattle.scan_model.specs.declared.pair_index.PairPlace.{PairPlace}
use Rattle.scan_model.proofs.pair_index.pair_index.Goals as goal

abbrev key : PairPlace → ℕ
key p = p.nets

pub returns : goal.returns
returns c =
    let rising = IsNonDecreasingBy-from_sort key _ (c.sort_unstable_by_key.ensures.sorted key (answers_always _ _ _ (λ f a r q k. search rules))) in
    record {
      entries = subst (λ xs. IsPermutation xs c.sort_unstable_by_key.new.self) c.in_ok-index.ensures c.sort_unstable_by_key.ensures.permutation;
      rising = rising;
    }
