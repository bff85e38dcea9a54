use Rattle.std.proofs.Common.{rules, ◌≡◌, ◌<◌, ◌+◌, ◌∙◌, ℕ, None, Some, Option, List, [], ◌∷◌, ◌++◌, length, get_or, IfSome, sym, subst, arith}
use Rattle.std.proofs.lemmas.List.{get_or_default}
use Rattle.work_crew.specs.Crews.{Makes, MakeAll}
use Rattle.work_crew.proofs.Pieces.{made_more, placed_set}
use Rattle.work_crew.proofs.crew.in_order.Goals.{in-Some, in-None+in_ok-made-in-None}
use Rattle.work_crew.proofs.crew.in_order.Goals as goal

pub loop-number-preserved : goal.loop-number-preserved
loop-number-preserved g c =
    let R : ℕ → g.row.T.Denot → Type 0 = Makes g.F.Fn c.args.make.now in
    let k = c.loop-number.number in
    let n = length c.args.slots.items in
    let slots = c.loop-number.slots.items in
    let below : k < n = search rules in
    let inside : k < length slots = omega (arith, below, c.loop-number.invariant.0.0) in
    let Has : Option g.row.T.Denot → Type 0 = λ slot. IfSome slot (R k) in
    let made : R k c.match-take.made = elim c.match-take.branch [
      | in-Some w ↦
          let there : get_or slots k None ≡ Some w.in-Some.made = get_or_default slots k None c.index_mut.result.now inside ∙ sym c.index_mut.ensures.value ∙ sym w.in-Some.ensures.value in
          subst (R k) (sym w.made-is) (subst Has there (c.loop-number.invariant.0.1 k below))
      | in-None+in_ok-made-in-None w ↦ subst (R k) (sym w.made-is) w.in_ok-made-in-None.ensures
    ] in
    let empty : Has c.take.new.self = subst Has (sym c.take.ensures.after) tt in
    let all = subst (MakeAll g.F.Fn c.args.make.now (k + 1)) (sym c.in_ok-push.ensures.items) (made_more R k c.loop-number.all.items c.match-take.made c.loop-number.invariant.1 made) in
    (placed_set R n slots k c.take.new.self below empty c.loop-number.invariant.0, all)
