use Rattle.std.proofs.Common.{◌≡◌, ℕ, ◌+◌, ◌*◌, ◌<◌, Bool, ◌&&◌, ltb, true, false, List, [], length, sym, ap, subst, ◌∙◌}
use Rattle.std.proofs.lemmas.Bool.{lt-ltb}
use Rattle.lane_rows.specs.Lanes.{lane}
use Rattle.log_rows.specs.declared.point_row.PointRow.{PointRow}
use Rattle.log_rows.specs.PointRows.{ArePointRows}
use Rattle.fault_effects.specs.Owners.{places_of}
use Rattle.diag_report.specs.PredictedLog.{fault_of}
use Rattle.pattern_fits.specs.declared.fit.Fit.{Fit}
use Rattle.slat_view.specs.Slat.{is_failing_pattern, fits}
use Rattle.slat_view.specs.Tests.{fitting_among}
use Rattle.pattern_fits.specs.FitPlaces.{places_in}
use Rattle.slat_view.specs.Trials.{any_failing, fits_in}
use Rattle.slat_view.proofs.Trying.{failing_lane, fits_there, same_chosen, none_fit}
use Rattle.slat_view.proofs.die_trials.DieTrials.block.Goals as goal

pub fits_by-requires-clause-failing : goal.fits_by-requires-clause-failing
fits_by-requires-clause-failing g c κs within = λ j lt. rw c.as_slice-rows.ensures (rw c.as_slice.ensures at c.failing_lanes-failing.ensures j lt)

pub returns-then-is_empty : goal.returns-then-is_empty
returns-then-is_empty g c = λ logs stands.
    let x = c.args.self.now in
    let t = x.parts.now in
    let b = c.args.block in
    let rows = c.in_ok-rows.rows in
    let are : ArePointRows t logs b rows = c.in_ok-rows.ensures.rows logs stands in
    let failing : (j : ℕ) → j < 512 → 512 * b + j < length t.patterns → lane c.failing_lanes-failing.result j ≡ is_failing_pattern t logs (512 * b + j) = λ j lt there.
    (rw c.as_slice.ensures at c.failing_lanes-failing.ensures j lt) ∙ failing_lane t logs b rows are j lt ∙ ap (λ a. a && is_failing_pattern t logs (512 * b + j)) (lt-ltb (512 * b + j) (length t.patterns) there) in
    record {
      failing = failing;
      fits = λ j lt there.
          ap (λ (fs : List Fit). places_in fs j) c.new-fits.ensures
          ∙ sym (none_fit t logs (512 * b + j) (places_of x.die.now.suspects) (sym (failing j lt there) ∙ c.is_empty.ensures.empty c.if-is_empty.true j lt));
    }

pub returns : goal.returns
returns g c = λ logs stands.
    let x = c.args.self.now in
    let t = x.parts.now in
    let b = c.args.block in
    let rows = c.in_ok-rows.rows in
    let are : ArePointRows t logs b rows = c.in_ok-rows.ensures.rows logs stands in
    record {
      failing = λ j lt there.
          (rw c.as_slice.ensures at c.failing_lanes-failing.ensures j lt) ∙ failing_lane t logs b rows are j lt ∙ ap (λ a. a && is_failing_pattern t logs (512 * b + j)) (lt-ltb (512 * b + j) (length t.patterns) there);
      fits = λ j lt there.
          (rw c.as_slice-rows.ensures at c.in_ok-fits.ensures j lt)
          ∙ same_chosen (λ p. fits_in t rows b (fault_of t p) j) (λ p. fits t logs (512 * b + j) (fault_of t p)) (places_of x.die.now.suspects) (λ p. fits_there t logs b rows are j lt (fault_of t p) (lt-ltb (512 * b + j) (length t.patterns) there));
    }
