use Rattle.std.proofs.Common.{◌≡◌, ◌/◌, ◌<◌, get_or, length, ap, arith}
use Rattle.std.proofs.lemmas.List.{get_or_read}
use Rattle.place_sets.proofs.PlaceWords.{has_put, filled_put}
use Rattle.place_sets.proofs.place_set.PlaceSet.insert.Goals as goal

pub invariant_of-self : goal.invariant_of-self
invariant_of-self c =
    let words = c.self.inside.words.items in
    let filled = c.self.inside.filled.items in
    let inside : c.args.place / 64 < length words = omega (arith, c.requires, ap length c.self.view_is) in
    let within : c.args.place / 64 / 64 < length filled = omega (arith, inside, c.self.invariant.spans) in
    let read : c.index_mut.result.now ≡ get_or words (c.args.place / 64) 0 = get_or_read words (c.args.place / 64) c.index_mut.result.now inside c.index_mut.ensures.value 0 in
    let read_filled : c.index_mut-2.result.now ≡ get_or filled (c.args.place / 64 / 64) 0 = get_or_read filled (c.args.place / 64 / 64) c.index_mut-2.result.now within c.index_mut-2.ensures.value 0 in
    rw (read, read_filled) (filled_put words filled c.self.invariant c.args.place inside)

pub returns-clause-places : goal.returns-clause-places
returns-clause-places c k =
    let words = c.self.inside.words.items in
    let inside : c.args.place / 64 < length words = omega (arith, c.requires, ap length c.self.view_is) in
    let read : c.index_mut.result.now ≡ get_or words (c.args.place / 64) 0 = get_or_read words (c.args.place / 64) c.index_mut.result.now inside c.index_mut.ensures.value 0 in
    rw (read, ← c.self.view_is) (has_put words c.args.place inside k)
