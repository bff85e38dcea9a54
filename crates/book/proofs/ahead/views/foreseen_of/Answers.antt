use Rattle.std.proofs.Common.{◌≡◌, List, length, All, sym, ap, ◌∙◌, subst, rules}
use Rattle.diagnosis.specs.Designs.{ViewFacts}
use Rattle.book.specs.RowsAhead.{IsDesignIn}
use Rattle.book.proofs.DesignsAhead.{designs_kept, written_over}
use Rattle.book.proofs.ahead.views.foreseen_of.Goals as goal

pub returns : goal.returns
returns g c =
    let deeds = c.args.kept.now.deeds in
    let items : List ViewFacts = c.in_ok-dies.dies.items in
    let lent : List ViewFacts = c.deref_mut.result.now in
    let made : List ViewFacts = c.foresee.new.dies in
    let known : List ViewFacts → Type 0 = λ dies. All (λ die. IsDesignIn deeds die.design) dies in
    let kept : length made ≡ length lent = search rules in
    let long : c.in_ok-dies.dies.len ≡ length items = search rules in
    let whole = written_over c.in_ok-dies.dies.len items made (kept ∙ ap length c.deref_mut.ensures.value) long in
    subst known (sym whole) (designs_kept deeds lent made kept c.foresee.ensures (subst known (sym c.deref_mut.ensures.value) c.in_ok-dies.ensures))
