use Rattle.std.proofs.Common.{rules, ℕ}
use Rattle.std.proofs.lemmas.List.Sorted.{answers_always, IsNonDecreasingBy-from_sort}
use Rattle.bridge_pairs.specs.declared.start_places.StartPlace.{StartPlace}
use Rattle.bridge_pairs.proofs.start_places.by_start.Goals as goal

abbrev rank : StartPlace → ℕ
rank s = s.rank

pub returns-clause-rising : goal.returns-clause-rising
returns-clause-rising c = IsNonDecreasingBy-from_sort rank _ (c.sort_unstable_by_key.ensures.sorted rank (answers_always _ _ _ (λ f a r q k. search rules)))
