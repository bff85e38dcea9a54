use Rattle.std.proofs.Common.{◌≡◌, ◌++◌, ◌∷◌, [], All, sym, subst, rules}
use Rattle.std.proofs.lemmas.List.Elements.{All-push}
use Rattle.diagnosis.specs.Designs.{ViewFacts}
use Rattle.book.specs.RowsAhead.{IsDesignIn}
use Rattle.book.proofs.ahead.views.dies_ahead.Goals as goal

pub loop-place-preserved : goal.loop-place-preserved
loop-place-preserved c =
    let known : ViewFacts → Type 0 = λ die. IsDesignIn c.args.kept.now.deeds die.design in
    let pushed : c.push.new.self.items ≡ c.loop-place.dies.items ++ c.in-Some-2.die ∷ [] = search rules in
    subst (All known) (sym pushed) (All-push known c.loop-place.dies.items c.in-Some-2.die c.loop-place.invariant (search rules))
