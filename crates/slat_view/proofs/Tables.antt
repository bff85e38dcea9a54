-- What tables of points and lanes come to, as numbers in lanes.
use Rattle.std.proofs.Common.{◌≡◌, ◌≢◌, ℕ, ◌+◌, ◌-◌, ◌^◌, ◌<◌, ◌≤◌, Bool, true, false, not, cond, eqb, ◌&&◌, ◌||◌, List, length, refl, sym, ap, ◌∙◌, arith}
use Rattle.std.specs.Prelude.{sum_by}
use Rattle.std.specs.List.{list_any, range_with_len}
use Rattle.std.proofs.Math.Bool.{and_comm}
use Rattle.std.proofs.lemmas.Bool.{eq-eqb, ne_eqb}
use Rattle.lane_rows.specs.Lanes.{lane, count_lanes}
use Rattle.log_rows.specs.declared.point_row.PointRow.{PointRow}
use Rattle.log_rows.specs.declared.side.Side.{Side}
use Rattle.log_rows.specs.declared.side.Side.TheVariants.{Failing, Passing}
use Rattle.fault_effects.specs.FaultModel.{Table, no_places}
use Rattle.fault_effects.specs.Tables.{put_row}
use Rattle.match_counts.specs.declared.flip_rows.FlipRows.{FlipRows}
use Rattle.match_counts.specs.Flips.{row_on, point_row_at, list_on}
use Rattle.match_counts.specs.Tables.{HasTable}
use Rattle.match_counts.proofs.Sums.{sum_agree}
use Rattle.slat_view.specs.Places.{bad}
use Rattle.pattern_fits.specs.LaneNumbers.{one, rows_with}
use Rattle.slat_view.specs.Trials.{any_failing, is_against_at, any_against, bad_in, agrees_in}
use Rattle.pattern_fits.proofs.Shown.{none_against}
use Rattle.slat_view.proofs.PlaceSums.{none_passes, same_sum, one_lane, one_lane_both, told, told_less, few_places, one_changed, one_less}
use Rattle.slat_view.proofs.Disagreeing.{against_masked, against_both, against_none}

pub none_bad : (rows : List PointRow) (c : Table) (j : ℕ) → not (any_against rows c j) ≡ eqb (bad_in rows c j) 0
none_bad rows c j = none_passes (is_against_at rows c j) (range_with_len 0 (length rows))

-- no more are against than there are points
pub few_bad : (rows : List PointRow) (c : Table) (j : ℕ) → bad_in rows c j ≤ length rows
few_bad rows c j = few_places (is_against_at rows c j) (length rows)

-- ---- what a flip shows

abbrev told_on : List PointRow → Table → Side → ℕ → ℕ
told_on rows c side j = sum_by (λ q. one (c q j && lane (row_on side (point_row_at rows q)) j)) (range_with_len 0 (length rows))

shown_with : (rows : List PointRow) (shown : FlipRows) (c : Table) → HasTable rows shown c → (side : Side) (j : ℕ) → j < 512 → rows_with (list_on side shown) j ≡ told_on rows c side j
shown_with rows shown c has side j lt =
    sum_agree (λ (r : List ℕ). one (lane r j)) (λ (r : List ℕ). count_lanes (λ i. lane r i && eqb i j)) (list_on side shown) (λ r. sym (one_lane r j lt))
    ∙ has side (λ i. eqb i j)
    ∙ same_sum (λ q. count_lanes (λ i. (c q i && eqb i j) && lane (row_on side (point_row_at rows q)) i)) (λ q. one (c q j && lane (row_on side (point_row_at rows q)) j)) 0 (length rows)
    (λ q low high. one_lane_both (λ i. c q i) (λ i. lane (row_on side (point_row_at rows q)) i) j lt)

module _ (rows : List PointRow) (shown : FlipRows) (c : Table) (has : HasTable rows shown c) (j : ℕ) (lt : j < 512) where
  pub failing_less : rows_with shown.failing.items j ≤ bad_in rows no_places j
  failing_less = omega (arith, shown_with rows shown c has Failing j lt, told_less (λ q. lane (point_row_at rows q).failing j) (λ q. lane (point_row_at rows q).passing j) (λ q. c q j) 0 (length rows))

  pub passing_few : rows_with shown.passing.items j ≤ length rows
  passing_few = omega (arith, shown_with rows shown c has Passing j lt, few_places (λ q. c q j && lane (point_row_at rows q).passing j) (length rows))

  bad_shown : (less : ℕ) → less + rows_with shown.failing.items j ≡ bad_in rows no_places j → bad_in rows c j ≡ less + rows_with shown.passing.items j
  bad_shown less down =
      omega (
        arith,
        down,
        shown_with rows shown c has Failing j lt,
        shown_with rows shown c has Passing j lt,
        told (λ q. lane (point_row_at rows q).failing j) (λ q. lane (point_row_at rows q).passing j) (λ q. c q j) 0 (length rows),
      )

  -- no point is against where each Failing bit is shown and no Passing bit is
  pub clear_shown : (total : ℕ) → total ≡ bad_in rows no_places j → (eqb (rows_with shown.failing.items j) total && eqb (rows_with shown.passing.items j) 0) ≡ eqb (bad_in rows c j) 0
  clear_shown total is =
      let down : total - rows_with shown.failing.items j + rows_with shown.failing.items j ≡ total = omega (arith, is, failing_less) in
      sym (none_against (total - rows_with shown.failing.items j) total (rows_with shown.failing.items j) (rows_with shown.passing.items j) (bad_in rows c j) down (bad_shown (total - rows_with shown.failing.items j) (down ∙ is)))

-- ---- a place shows another row

-- lanes that one row has and not another
pub lanes_less : (l b n a x y : Bool) → l ≡ (b && n) → n ≡ not a → b ≡ x → a ≡ y → l ≡ (x && not y)
lanes_less l b n a x y is is_not is_b is_a = is ∙ rw (is_not, is_b, is_a) refl

moved_by : (x y : Bool) (start down up : ℕ) → down + one (x && not y) ≡ start → up ≡ down + one (y && not x) → up + one x ≡ start + one y
moved_by true true start down up is_down is_up = omega (arith, is_down, is_up)
moved_by true false start down up is_down is_up = omega (arith, is_down, is_up)
moved_by false true start down up is_down is_up = omega (arith, is_down, is_up)
moved_by false false start down up is_down is_up = omega (arith, is_down, is_up)

less_one : (x y : Bool) → one (x && not y) ≤ one x
less_one true true = omega arith
less_one true false = omega arith
less_one false y = omega arith

-- whether the point is against the lanes of a row
abbrev pub against_row : PointRow → List ℕ → ℕ → Bool
against_row r row j = (lane r.failing j && not (lane row j)) || (lane r.passing j && lane row j)

module _ (rows : List PointRow) (c : Table) (place : ℕ) (within : place < length rows) (old new : List ℕ) (j : ℕ) (is_old : lane old j ≡ c place j) where
  abbrev pub before : Bool
  before = against_row (point_row_at rows place) old j

  abbrev pub after : Bool
  after = against_row (point_row_at rows place) new j

  here_before : one before ≡ one (is_against_at rows c j place)
  here_before = ap (λ (b : Bool). one ((lane (point_row_at rows place).failing j && not b) || (lane (point_row_at rows place).passing j && b))) is_old

  here_after : one after ≡ one (is_against_at rows (put_row c place new) j place)
  here_after = ap (λ (b : Bool). one ((lane (point_row_at rows place).failing j && not (cond b (lane new j) (c place j))) || (lane (point_row_at rows place).passing j && cond b (lane new j) (c place j)))) (sym (eq-eqb place place refl))

  elsewhere : (q : ℕ) → q ≢ place → one (is_against_at rows (put_row c place new) j q) ≡ one (is_against_at rows c j q)
  elsewhere q other = ap (λ (b : Bool). one ((lane (point_row_at rows q).failing j && not (cond b (lane new j) (c q j))) || (lane (point_row_at rows q).passing j && cond b (lane new j) (c q j)))) (ne_eqb q place other)

  changed : bad_in rows (put_row c place new) j + one before ≡ bad_in rows c j + one after
  changed = omega (
    arith,
    here_before,
    here_after,
    one_changed (λ q. one (is_against_at rows (put_row c place new) j q)) (λ q. one (is_against_at rows c j q)) place 0 (length rows) elsewhere (omega arith) (omega (arith, within)),
  )

  pub down_there : one (before && not after) ≤ bad_in rows c j
  down_there = omega (arith, less_one before after, here_before, one_less (λ q. one (is_against_at rows c j q)) place 0 (length rows) (omega arith) (omega (arith, within)))

  pub bad_put : (down up : ℕ) → down + one (before && not after) ≡ bad_in rows c j → up ≡ down + one (after && not before) → up ≡ bad_in rows (put_row c place new) j
  bad_put down up is_down is_up = omega (arith, changed, moved_by before after (bad_in rows c j) down up is_down is_up)

-- ---- lanes of a part

pub fits_masked : (rows : List PointRow) (c : Table) (lanes : List ℕ) (j : ℕ) → ((eqb (bad_in rows c j) 0 && lane lanes j) && any_failing rows j) ≡ agrees_in rows (λ q i. c q i && lane lanes i) j
fits_masked rows c lanes j =
    ap (λ (x : Bool). (x && lane lanes j) && any_failing rows j) (sym (none_bad rows c j))
    ∙ against_masked (λ q. lane (point_row_at rows q).failing j) (λ q. lane (point_row_at rows q).passing j) (λ q. c q j) (lane lanes j) (length rows)
    ∙ ap (λ (x : Bool). any_failing rows j && x) (none_bad rows (λ q i. c q i && lane lanes i) j)

agrees_is : (rows : List PointRow) (c : Table) (j : ℕ) → agrees_in rows c j ≡ (any_failing rows j && not (any_against rows c j))
agrees_is rows c j = ap (λ (x : Bool). any_failing rows j && x) (sym (none_bad rows c j))

pub fits_both : (rows : List PointRow) (c d : Table) (j : ℕ) → ((q p : ℕ) → (c q j && d p j) ≡ false) → (agrees_in rows c j || agrees_in rows d j) ≡ agrees_in rows (λ q i. c q i || d q i) j
fits_both rows c d j apart =
    ap (λ (x : Bool). x || agrees_in rows d j) (agrees_is rows c j)
    ∙ ap (λ (x : Bool). (any_failing rows j && not (any_against rows c j)) || x) (agrees_is rows d j)
    ∙ against_both (λ q. lane (point_row_at rows q).failing j) (λ q. lane (point_row_at rows q).passing j) (λ q. c q j) (λ q. d q j) (length rows) apart
    ∙ sym (agrees_is rows (λ q i. c q i || d q i) j)

pub clear_fits : (rows : List PointRow) (c : Table) (j : ℕ) → (eqb (bad_in rows c j) 0 && any_failing rows j) ≡ agrees_in rows c j
clear_fits rows c j = and_comm (eqb (bad_in rows c j) 0) (any_failing rows j)

-- where nothing shows a Failing bit is against
pub none_clear : (rows : List PointRow) (j : ℕ) → not (any_failing rows j) ≡ eqb (bad_in rows no_places j) 0
none_clear rows j =
    ap not (sym (against_none (λ q. lane (point_row_at rows q).failing j) (λ q. lane (point_row_at rows q).passing j) (λ q. false) 0 (length rows) (λ q low high. refl)))
    ∙ none_bad rows no_places j
