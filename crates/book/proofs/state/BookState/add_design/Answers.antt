use Rattle.std.proofs.Common.{◌<◌, ap, sym, subst, ◌∙◌}
use Rattle.book.specs.State.{StateFacts}
use Rattle.book.specs.ReadyChanges.{IsReadyDesign}
use Rattle.book.proofs.Readying.{design_is_new, design_added}
use Rattle.book.proofs.state.BookState.add_design.Goals as goal

pub add-requires : goal.add-requires
add-requires c = subst (λ (k : StateFacts). 0 < k.room) (sym c.self.view_is) c.requires.room

pub add-requires-2-clause-next : goal.add-requires-2-clause-next
add-requires-2-clause-next c = ap (λ (k : StateFacts). k.designs.next) c.self.view_is ∙ c.requires.next

pub add-requires-2-clause-new : goal.add-requires-2-clause-new
add-requires-2-clause-new c =
    design_is_new _ c.args.ready (subst (λ (k : StateFacts). IsReadyDesign k c.args.ready) (sym c.self.view_is) c.requires) c.self.invariant

pub invariant_of-self : goal.invariant_of-self
invariant_of-self c =
    design_added _ c.args.ready (subst (λ (k : StateFacts). IsReadyDesign k c.args.ready) (sym c.self.view_is) c.requires) c.self.invariant
    c.add.new.self.list c.add-2.new.self.list c.add.ensures c.add-2.ensures
