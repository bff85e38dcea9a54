use Rattle.std.proofs.Common.{ℕ, List, [], ◌++◌, ◌∷◌, get_or, ap, sym, ◌∙◌, arith}
use Rattle.std.proofs.lemmas.List.{take_more, take_all}
use Rattle.fault_effects.proofs.owners.suspects_at.Goals as goal

pub loop-place-preserved : goal.loop-place-preserved
loop-place-preserved c =
    let k = c.loop-place.place-index in
    let places = c.args.places.now in
    let inv = c.loop-place.invariant in
    let told = c.in_ok-push_suspect.ensures in
    record {
      each = told.each inv.each;
      few = omega (arith, told.few, inv.few);
      places = λ below. told.places (below k 0 c.loop-place-test.true) ∙ ap (λ (ps : List ℕ). ps ++ get_or places k 0 ∷ []) (inv.places below) ∙ sym (take_more places k 0 c.loop-place-test.true);
    }

pub returns-clause-places : goal.returns-clause-places
returns-clause-places c = λ below. c.loop-place.invariant.places below ∙ take_all c.loop-place.place-index c.args.places.now c.loop-place-test.false
