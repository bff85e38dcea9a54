use Rattle.std.proofs.Common.{◌<◌, length, refl, sym, subst, arith, rules}
use Rattle.book.specs.Changes.{BookFacts}
use Rattle.book.proofs.OneMore.{few_designs}
use Rattle.book.proofs.Changing.{book_after}
use Rattle.book.proofs.book.Book.put_design_with.Goals as goal

pub overflow_add-number : goal.overflow_add-number
overflow_add-number g c =
    let room : length c.self.inside.kept.deeds < c.self.inside.limit = subst (λ (b : BookFacts). length b.deeds < b.limit) (sym c.self.view_is) c.in_ok-has_room.ensures.room in
    omega (arith, few_designs c.self.inside.kept.deeds, room)

pub invariant_of-self-2 : goal.invariant_of-self-2
invariant_of-self-2 g c =
    let room : length c.self.inside.kept.deeds < c.self.inside.limit = subst (λ (b : BookFacts). length b.deeds < b.limit) (sym c.self.view_is) c.in_ok-has_room.ensures.room in
    book_after c.record_design.result _ _ _ c.self.invariant room (search rules) c.record_design.ensures.deeds refl c.record_design.ensures.rows
