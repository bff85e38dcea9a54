use Rattle.std.proofs.Common.{◌≡◌, ◌∙◌, ℕ, List, Option, map, length, ap, sym, subst}
use Rattle.std.specs.Prelude.{All, Contains, IfSome}
use Rattle.std.proofs.lemmas.Result.{IfOk-weaker}
use Rattle.scan_model.specs.declared.logs.Scored.{Scored}
use Rattle.scan_model.specs.MatchCounts.{candidates}
use Rattle.diagnosis.specs.Designs.{facts_of}
use Rattle.pattern_fits.specs.declared.fit.Fit.{Fit}
use Rattle.slat_view.specs.Slat.{fitting_places}
use Rattle.slat_view.specs.WholeCounts.{places_at, HavePlacesUpTo}
use Rattle.slat_view.proofs.FittingCandidates.{fitting_listed}
use Rattle.slat_view.proofs.whole.WholeSlat.places.Goals as goal

pub returns-in-Some-clause-candidates : goal.returns-in-Some-clause-candidates
returns-in-Some-clause-candidates g c =
    let v = c.args.view.now in
    let t = v.design.test in
    let logs = facts_of v.logs in
    let w = c.args.pattern in
    let All_of : List ℕ → Type 0 = All (Contains (map (λ (row : Scored). row.place) (candidates t logs))) in
    let kept : HavePlacesUpTo t logs (length t.patterns) c.in-Some.blocks = subst (λ (o : Option (List (List Fit))). IfSome o (HavePlacesUpTo t logs (length t.patterns))) c.in-Some.is c.requires.whole.places in
    let told : places_at c.as_slice.result.now w ≡ fitting_places t logs w = ap (λ (blocks : List (List Fit)). places_at blocks w) c.as_slice.ensures ∙ kept w c.requires.pattern in
    IfOk-weaker c.kept_places.result (λ (ps : List ℕ). ps ≡ places_at c.as_slice.result.now w) All_of
    (λ ps is. subst All_of (sym (is ∙ told)) (fitting_listed t logs w c.requires.pattern)) c.kept_places.ensures
