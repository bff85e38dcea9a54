-- Tables that agree come to the same.
use Rattle.std.specs.Prelude.{◌≡◌, ℕ, ◌<◌, List, length, Bool, ◌&&◌, ◌==◌}
use Rattle.std.proofs.Common.{ap, subst, ◌∙◌}
use Rattle.scan_model.specs.ScanTest.{ScanTest, points_of}
use Rattle.lane_rows.specs.Lanes.{lane}
use Rattle.log_rows.specs.declared.point_row.PointRow.{PointRow}
use Rattle.fault_effects.specs.FaultModel.{Table}
use Rattle.match_counts.specs.Flips.{point_row_at}
use Rattle.match_counts.specs.SameTables.{sums_agree}
use Rattle.slat_view.specs.Places.{bad}
use Rattle.slat_view.specs.Trials.{any_failing, bad_in, AreFitting, AreBad}

abbrev bad_at : List PointRow → Table → ℕ → ℕ → ℕ
bad_at rows c j q = bad (lane (point_row_at rows q).failing j) (lane (point_row_at rows q).passing j) (c q j)

module _ (t : ScanTest) (rows : List PointRow) (c d : Table) (len : length rows ≡ length (points_of t)) (agree : (q j : ℕ) → q < length (points_of t) → j < 512 → c q j ≡ d q j) where
  same_bad : (j : ℕ) → j < 512 → bad_in rows c j ≡ bad_in rows d j
  same_bad j lt = sums_agree (bad_at rows c j) (bad_at rows d j) (length rows) (λ q within. ap (bad (lane (point_row_at rows q).failing j) (lane (point_row_at rows q).passing j)) (agree q j (subst (λ (n : ℕ). q < n) len within) lt))

  pub bad_same : (counter : List (List ℕ)) → AreBad rows counter c → AreBad rows counter d
  bad_same counter are j lt = are j lt ∙ same_bad j lt

  pub fitting_same : (lanes : List ℕ) → AreFitting rows lanes c → AreFitting rows lanes d
  fitting_same lanes are j lt = are j lt ∙ ap (λ (n : ℕ). any_failing rows j && (n == 0)) (same_bad j lt)
