use Rattle.std.proofs.Common.{◌≡◌, ℕ, ◌<◌, eqb, ◌&&◌, List, ap, ◌∙◌, arith}
use Rattle.std.proofs.lemmas.Result.{IfOk-weaker}
use Rattle.lane_rows.specs.Lanes.{lane}
use Rattle.fault_effects.specs.FaultModel.{Table, no_places}
use Rattle.match_counts.specs.Tables.{HasTable}
use Rattle.pattern_fits.specs.LaneNumbers.{value, rows_with}
use Rattle.slat_view.specs.Trials.{AreClear}
use Rattle.slat_view.proofs.Tables.{few_bad, failing_less, passing_few, clear_shown}
use Rattle.slat_view.proofs.fits.Fits.clear_lanes.Goals as goal

pub clear_lanes-requires-clause-failing : goal.clear_lanes-requires-clause-failing
clear_lanes-requires-clause-failing c = λ j lt.
    let rows = c.args.self.now.points.rows.now in
    let failing : rows_with c.deref.result.now j ≡ rows_with c.args.shown.now.failing.items j = ap (λ (rs : List (List ℕ)). rows_with rs j) c.deref.ensures.value in
    omega (arith, c.args.self.now.totals_right j lt, failing, failing_less rows c.args.shown.now c.requires.0 c.requires.1 j lt)

pub clear_lanes-requires-clause-passing : goal.clear_lanes-requires-clause-passing
clear_lanes-requires-clause-passing c = λ j lt.
    let rows = c.args.self.now.points.rows.now in
    let passing : rows_with c.deref-2.result.now j ≡ rows_with c.args.shown.now.passing.items j = ap (λ (rs : List (List ℕ)). rows_with rs j) c.deref-2.ensures.value in
    omega (arith, c.args.self.now.totals_right j lt, passing, passing_few rows c.args.shown.now c.requires.0 c.requires.1 j lt, few_bad rows no_places j, c.args.self.now.points.rows_len, c.points.ensures.few)

pub returns : goal.returns
returns c =
    let rows = c.args.self.now.points.rows.now in
    let shown = c.args.shown.now in
    let total : ℕ → ℕ = λ j. value c.args.self.now.totals j in
    IfOk-weaker c.clear_lanes.result
    (λ lanes. (j : ℕ) → j < 512 → lane lanes j ≡ (eqb (rows_with c.deref.result.now j) (total j) && eqb (rows_with c.deref-2.result.now j) 0))
    (λ lanes. (table : Table) → HasTable rows shown table → AreClear rows lanes table)
    (λ lanes clear table has j lt.
    clear j lt
    ∙ ap (λ (rs : List (List ℕ)). eqb (rows_with rs j) (total j) && eqb (rows_with c.deref-2.result.now j) 0) c.deref.ensures.value
    ∙ ap (λ (rs : List (List ℕ)). eqb (rows_with shown.failing.items j) (total j) && eqb (rows_with rs j) 0) c.deref-2.ensures.value
    ∙ clear_shown rows shown table has j lt (total j) (c.args.self.now.totals_right j lt))
    c.clear_lanes.ensures
