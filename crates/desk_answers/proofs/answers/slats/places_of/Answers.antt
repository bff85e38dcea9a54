use Rattle.std.proofs.Common.{◌≡◌, ℕ, List, sym, subst}
use Rattle.std.proofs.lemmas.Result.{IfOk-weaker}
use Rattle.diagnosis.specs.Designs.{facts_of}
use Rattle.slat_view.specs.Slat.{fitting_places}
use Rattle.slat_view.specs.Trials.{ArePlaces}
use Rattle.desk_answers.proofs.FittingPlaces.{places_below}
use Rattle.desk_answers.proofs.answers.slats.places_of.Goals as goal

pub returns-clause-faults : goal.returns-clause-faults
returns-clause-faults g c =
    let t = c.args.view.now.design.test in
    let fitting = fitting_places t (facts_of c.args.view.now.logs) c.args.pattern in
    IfOk-weaker c.places.result (λ (places : List ℕ). places ≡ fitting) (ArePlaces t)
    (λ (places : List ℕ) is. subst (ArePlaces t) (sym is) (places_below t (facts_of c.args.view.now.logs) c.args.pattern))
    c.places.ensures.places
