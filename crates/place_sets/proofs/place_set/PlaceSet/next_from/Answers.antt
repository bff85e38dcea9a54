use Rattle.std.proofs.Common.{◌≡◌, ℕ, ◌+◌, ◌*◌, ◌/◌, false, List, subst, ◌∙◌, arith}
use Rattle.place_sets.specs.Places.{has_place}
use Rattle.place_sets.proofs.PlaceWords.{next_behind}
use Rattle.place_sets.proofs.place_set.PlaceSet.next_from.Goals as goal

pub returns : goal.returns
returns c =
    let same : c.deref.result.now ≡ c.args.self.now = c.deref.ensures.value ∙ c.self.view_is in
    next_behind (has_place c.args.self.now) c.args.from (64 * (c.args.from / 64 + 1)) c.next_word.result (omega arith)
    (λ k le lt. subst (λ (words : List ℕ). has_place words k ≡ false) same (c.in_default.ensures k (omega (arith, le)) (omega (arith, lt))))
    c.next_word.ensures
