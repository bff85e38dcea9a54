use Rattle.std.proofs.Common.{◌≡◌, ◌/◌, ◌<◌, get_or, set, length, ap, sym, ◌∙◌, arith}
use Rattle.std.proofs.lemmas.Bool.Decides.{nat_tests}
use Rattle.std.proofs.lemmas.List.{get_or_read, get_or-set_same, length-set}
use Rattle.place_sets.proofs.PlaceWords.{taken_out, has_taken, filled_taken}
use Rattle.place_sets.proofs.place_set.PlaceSet.remove.Goals as goal

pub invariant_of-self : goal.invariant_of-self
invariant_of-self c =
    let words = c.self.inside.words.items in
    let filled = c.self.inside.filled.items in
    let word = c.args.place / 64 in
    let inside : word < length words = omega (arith, c.requires, ap length c.self.view_is) in
    let within : word / 64 < length filled = omega (arith, inside, c.self.invariant.spans) in
    let read : c.index_mut.result.now ≡ get_or words word 0 = get_or_read words word c.index_mut.result.now inside c.index_mut.ensures.value 0 in
    let read_filled : c.index_mut-then-is_empty.result.now ≡ get_or filled (word / 64) 0 = get_or_read filled (word / 64) c.index_mut-then-is_empty.result.now within c.index_mut-then-is_empty.ensures.value 0 in
    let left = taken_out words c.args.place inside in
    let still : word < length (set words word left) = omega (arith, inside, length-set words word left) in
    let is_left : c.index.result.now ≡ left = get_or_read (set words word left) word c.index.result.now still (rw read at c.index.ensures) 0 ∙ get_or-set_same words word left 0 inside in
    let zero : c.index.result.now ≡ 0 = grind (arith, nat_tests, c.if-is_empty.true) in
    rw (read, read_filled) (filled_taken words filled c.self.invariant c.args.place inside (sym is_left ∙ zero))

pub returns-then-is_empty-clause-places : goal.returns-then-is_empty-clause-places
returns-then-is_empty-clause-places c k =
    let words = c.self.inside.words.items in
    let inside : c.args.place / 64 < length words = omega (arith, c.requires, ap length c.self.view_is) in
    let read : c.index_mut.result.now ≡ get_or words (c.args.place / 64) 0 = get_or_read words (c.args.place / 64) c.index_mut.result.now inside c.index_mut.ensures.value 0 in
    rw (read, ← c.self.view_is) (has_taken words c.args.place inside k)

pub returns-else-is_empty-clause-places : goal.returns-else-is_empty-clause-places
returns-else-is_empty-clause-places c k =
    let words = c.self.inside.words.items in
    let inside : c.args.place / 64 < length words = omega (arith, c.requires, ap length c.self.view_is) in
    let read : c.index_mut.result.now ≡ get_or words (c.args.place / 64) 0 = get_or_read words (c.args.place / 64) c.index_mut.result.now inside c.index_mut.ensures.value 0 in
    rw (read, ← c.self.view_is) (has_taken words c.args.place inside k)
