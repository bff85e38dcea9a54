use Rattle.std.proofs.Common.{◌≡◌, ◌<◌, ◌∙◌, sym, ap, subst, Some, length, arith}
use Rattle.std.specs.Prelude.{slice_get, slice_set}
use Rattle.book.specs.Dies.{DieFacts, with_sign}
use Rattle.book.proofs.NotedDies.{AreNotedDies-set, lent_at, lent_is}
use Rattle.book.proofs.state.dies.Dies.add_sign.Goals as goal

pub add_sign-requires : goal.add_sign-requires
add_sign-requires c =
    let within : c.args.place < length c.self.inside.list.items = omega (arith, ap length c.self.view_is) in
    c.requires.room c.index_mut.result.now
    (subst (λ xs. slice_get xs c.args.place ≡ Some c.index_mut.result.now) c.self.view_is
    (lent_at c.self.inside.list.items c.args.place c.index_mut.result.now c.index_mut.ensures.value within))

pub invariant_of-self : goal.invariant_of-self
invariant_of-self c =
    let within : c.args.place < length c.self.inside.list.items = omega (arith, ap length c.self.view_is) in
    AreNotedDies-set c.self.inside.places c.self.inside.list.items c.args.place c.index_mut.result.now c.add_sign.new.self c.self.invariant
    (lent_at c.self.inside.list.items c.args.place c.index_mut.result.now c.index_mut.ensures.value within)
    (ap (λ (k : DieFacts). k.design) c.add_sign.ensures) (ap (λ (k : DieFacts). k.die) c.add_sign.ensures)

pub returns : goal.returns
returns c k at =
    let here : slice_get c.self.inside.list.items c.args.place ≡ Some k = subst (λ xs. slice_get xs c.args.place ≡ Some k) (sym c.self.view_is) at in
    ap (λ y. slice_set c.self.inside.list.items c.args.place y)
    (c.add_sign.ensures ∙ ap (λ z. with_sign z c.args.sign) (lent_is c.self.inside.list.items c.args.place c.index_mut.result.now k c.index_mut.ensures.value here))
    ∙ ap (λ xs. slice_set xs c.args.place (with_sign k c.args.sign)) c.self.view_is
