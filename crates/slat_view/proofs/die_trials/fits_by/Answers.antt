use Rattle.std.proofs.Common.{◌≡◌, ℕ, ◌+◌, ◌<◌, List, [], length, refl, sym, ap, subst, ◌∙◌, arith}
use Rattle.std.specs.Prelude.{All, filter}
use Rattle.std.proofs.lemmas.List.Elements.{All-nil}
use Rattle.std.proofs.lemmas.Option.{get_or_from_slice_get}
use Rattle.std.proofs.lemmas.Result.{IfOk-weaker}
use Rattle.scan_model.specs.declared.fault.Fault.{Fault}
use Rattle.scan_model.specs.Netlist.{Netlist}
use Rattle.scan_model.specs.Walks.{IsEvaluationOrder}
use Rattle.scan_model.specs.Universe.{universe}
use Rattle.scan_model.specs.ReportText.{no_fault}
use Rattle.lane_rows.specs.Lanes.{lane}
use Rattle.fault_effects.specs.declared.share.Share.{Share}
use Rattle.fault_effects.specs.declared.suspect.Suspect.{Suspect}
use Rattle.fault_effects.specs.Owners.{IsSuspectOf, AreOwners, owner, places_of, suspect_at, no_suspect}
use Rattle.fault_effects.specs.Shares.{HasShare}
use Rattle.fault_effects.proofs.PointModel.{point_model-logic, point_model-chain, all_in_universe}
use Rattle.diag_report.specs.PredictedLog.{fault_of}
use Rattle.pattern_fits.specs.declared.fit.Fit.{Fit}
use Rattle.pattern_fits.specs.FitPlaces.{places_in}
use Rattle.slat_view.specs.Trials.{fits_in, AreFits}
use Rattle.slat_view.proofs.BlockFits.{group_there}
use Rattle.slat_view.proofs.die_trials.fits_by.Goals as goal

pub block_parts-requires-clause-work : goal.block_parts-requires-clause-work
block_parts-requires-clause-work g c κs within =
    let t = c.args.parts.now in
    let Ordered : Netlist → Type 0 = λ n. IsEvaluationOrder n c.order.result.now in
    let Owners : List Suspect → Type 0 = λ ss. AreOwners t ss c.args.die.now.owners in
    let are : All (IsSuspectOf t) c.as_slice-suspects.result.now = subst (All (IsSuspectOf t)) (sym c.as_slice-suspects.ensures) c.requires.die.suspects in
    record {
      test = refl;
      block = refl;
      ready = c.requires.die.good;
      clean = λ s is. is;
      faults = universe t;
      model = point_model-logic t c.circuit.ensures.fits c.order.result.now (subst Ordered c.circuit.ensures.value c.order.ensures);
      among = all_in_universe t c.as_slice-suspects.result.now are;
      suspects = are;
      owners = subst Owners (sym c.as_slice-suspects.ensures) c.requires.die.owners;
    }

pub block_parts-requires-clause-chains : goal.block_parts-requires-clause-chains
block_parts-requires-clause-chains g c κs within = record {
  test = refl;
  good = refl;
  block = refl;
  ready = c.requires.die.good;
  belongs = c.requires.die.good;
  chains = point_model-chain c.args.parts.now c.circuit.ensures.fits;
}

pub list_fits-requires : goal.list_fits-requires
list_fits-requires g c =
    let Inside : List (Share (List ℕ)) → Type 0 = λ ss. All (λ s. s.suspect < length c.as_slice-suspects.result.now) ss in
    subst Inside (sym c.as_slice.ensures) (c.in_ok-shares.ensures.inside (All-nil _))

pub returns : goal.returns
returns g c =
    let t = c.args.parts.now in
    let rows = c.args.rows.now in
    let b = c.args.block in
    let die = c.args.die.now in
    let suspects = c.as_slice-suspects.result.now in
    let shares = c.in_ok-shares.shares in
    let part = c.in_ok-shares.ensures in
    let are : All (IsSuspectOf t) suspects = subst (All (IsSuspectOf t)) (sym c.as_slice-suspects.ensures) c.requires.die.suspects in
    let Owners : List Suspect → Type 0 = λ ss. AreOwners t ss die.owners in
    let owned : AreOwners t suspects die.owners = subst Owners (sym c.as_slice-suspects.ensures) c.requires.die.owners in
    let fault_is : (i : ℕ) → i < length suspects → fault_of t (suspect_at suspects i).place ≡ (suspect_at suspects i).fault = λ i within.
    get_or_from_slice_get (universe t) (suspect_at suspects i).place (suspect_at suspects i).fault no_fault (are i no_suspect within).at in
    let Right : List (Share (List ℕ)) → Type 0 = λ ss. All (λ s. (j : ℕ) → j < 512 → lane s.part j ≡ fits_in t rows b (fault_of t (suspect_at suspects s.suspect).place) j) ss in
    let right : Right shares = λ k d lt j lj. part.right (All-nil _) k d lt j lj ∙ ap (λ (f : Fault). fits_in t rows b f j) (sym (fault_is _ (part.inside (All-nil _) k d lt))) in
    let Have : List (Share (List ℕ)) → Type 0 = λ ss. (i : ℕ) → i < length suspects → HasShare ss i in
    let have : Have shares = λ i lt. part.there i lt (omega (arith, group_there die.owners (owner t (suspect_at suspects i).fault) i (owned.all i lt), c.requires.die.groups)) in
    let Listed : List Fit → Type 0 = λ fits. (j : ℕ) → j < 512 → places_in fits j ≡ filter (λ p. fits_in t rows b (fault_of t p) j) (places_of suspects) in
    IfOk-weaker c.list_fits.result Listed (AreFits t rows b (places_of die.suspects))
    (λ fits listed j lj. listed j lj ∙ ap (λ (ss : List Suspect). filter (λ p. fits_in t rows b (fault_of t p) j) (places_of ss)) c.as_slice-suspects.ensures)
    (c.list_fits.ensures (λ p j. fits_in t rows b (fault_of t p) j) (subst Right (sym c.as_slice.ensures) right) (subst Have (sym c.as_slice.ensures) have))
