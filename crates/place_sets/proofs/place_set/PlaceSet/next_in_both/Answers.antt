use Rattle.std.proofs.Common.{◌≡◌, ℕ, ◌+◌, ◌*◌, ◌/◌, false, List, subst, ◌∙◌, arith}
use Rattle.place_sets.specs.Places.{IsNextFrom}
use Rattle.place_sets.proofs.PlaceWords.{in_both, next_behind}
use Rattle.place_sets.proofs.place_set.PlaceSet.next_in_both.Goals as goal

pub returns : goal.returns
returns c =
    let words = c.args.self.now in
    let others = c.args.other.now in
    let end = 64 * (c.args.from / 64 + 1) in
    let own : c.deref.result.now ≡ words = c.deref.ensures.value ∙ c.self.view_is in
    let other : c.deref-2.result.now ≡ others = c.deref-2.ensures.value ∙ c.other.view_is in
    let own_again : c.deref-3.result.now ≡ words = c.deref-3.ensures.value ∙ c.self.view_is in
    let other_again : c.deref-5.result.now ≡ others = c.deref-5.ensures.value ∙ c.other.view_is in
    next_behind (in_both words others) c.args.from end c.next_both.result (omega arith)
    (λ k le lt. subst (λ (w : List ℕ). in_both w others k ≡ false) own (subst (λ (o : List ℕ). in_both c.deref.result.now o k ≡ false) other (c.in_default.ensures k (omega (arith, le)) (omega (arith, lt)))))
    (subst (λ (w : List ℕ). IsNextFrom (in_both w others) end c.next_both.result) own_again (subst (λ (o : List ℕ). IsNextFrom (in_both c.deref-3.result.now o) end c.next_both.result) other_again c.next_both.ensures))
