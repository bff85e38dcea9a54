use Rattle.std.proofs.Common.{◌≡◌, ℕ, ◌^◌, ◌<◌, get_or, Some, List, subst, arith}
use Rattle.std.proofs.lemmas.List.{get_or_read}
use Rattle.place_sets.specs.Places.{has_place, IsNextFrom}
use Rattle.place_sets.proofs.PlaceWords.{word_within, first_behind}
use Rattle.place_sets.proofs.place_set.PlaceSet.next_word.Goals as goal

pub returns-in-Some : goal.returns-in-Some
returns-in-Some c =
    let words = c.self.inside.words.items in
    let filled = c.self.inside.filled.items in
    let word = c.in-Some.word in
    let next : IsNextFrom (has_place filled) c.args.from (Some word) = subst (λ (places : List ℕ). IsNextFrom (has_place places) c.args.from (Some word)) c.deref.ensures.value c.in-Some.ensures in
    let fits : c.index.result.now < 2 ^ 64 = omega arith in
    let read : c.index.result.now ≡ get_or words word 0 = get_or_read words word c.index.result.now (word_within words filled c.self.invariant word next.1) c.index.ensures 0 in
    rw (read, ← c.self.view_is) (first_behind words filled c.self.invariant c.args.from word (rw (← read) fits) next)
