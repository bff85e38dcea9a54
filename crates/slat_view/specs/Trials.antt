-- Faults that are tried in a block of 512 patterns.
use Rattle.std.specs.Prelude.{◌≡◌, ℕ, ◌<◌, List, [], filter, length, sum_by, All, Bool, not, ◌&&◌, ◌||◌, ◌==◌, slice_index_or}
use Rattle.std.specs.List.{list_any, range_with_len}
use Rattle.scan_model.specs.declared.fault.Fault.{Fault}
use Rattle.scan_model.specs.ScanTest.{ScanTest}
use Rattle.scan_model.specs.Universe.{universe}
use Rattle.lane_rows.specs.Lanes.{lane}
use Rattle.log_rows.specs.declared.point_row.PointRow.{PointRow}
use Rattle.fault_effects.specs.declared.share.Share.{Share}
use Rattle.fault_effects.specs.FaultModel.{Table, point_model, fails_in}
use Rattle.match_counts.specs.Flips.{point_row_at}
use Rattle.diag_report.specs.PredictedLog.{fault_of}
use Rattle.pattern_fits.specs.declared.fit.Fit.{Fit}
use Rattle.pattern_fits.specs.LaneNumbers.{value}
use Rattle.pattern_fits.specs.FitPlaces.{places_in}
use Rattle.slat_view.specs.Places.{bad}

-- some point has a Failing bit in lane j
abbrev pub any_failing : List PointRow → ℕ → Bool
any_failing rows j = list_any (λ k. lane (point_row_at rows k).failing j) (range_with_len 0 (length rows))

-- point k is against a table in lane j
abbrev pub is_against_at : List PointRow → Table → ℕ → ℕ → Bool
is_against_at rows c j k = (lane (point_row_at rows k).failing j && not (c k j)) || (lane (point_row_at rows k).passing j && c k j)

-- some point is against it in lane j
abbrev pub any_against : List PointRow → Table → ℕ → Bool
any_against rows c j = list_any (is_against_at rows c j) (range_with_len 0 (length rows))

-- how many points are against it in lane j
abbrev pub bad_in : List PointRow → Table → ℕ → ℕ
bad_in rows c j = sum_by (λ k. bad (lane (point_row_at rows k).failing j) (lane (point_row_at rows k).passing j) (c k j)) (range_with_len 0 (length rows))

-- lane j has a Failing bit, and the number of points that are against the table is 0
abbrev pub agrees_in : List PointRow → Table → ℕ → Bool
agrees_in rows c j = any_failing rows j && (bad_in rows c j == 0)

-- the lanes in which no point is against the table
abbrev pub AreClear : List PointRow → List ℕ → Table → Type 0
AreClear rows lanes c = (j : ℕ) → j < 512 → lane lanes j ≡ (bad_in rows c j == 0)

-- the lanes of the failing patterns that it fits
abbrev pub AreFitting : List PointRow → List ℕ → Table → Type 0
AreFitting rows lanes c = (j : ℕ) → j < 512 → lane lanes j ≡ agrees_in rows c j

-- a number in each lane: how many points are against the table
abbrev pub AreBad : List PointRow → List (List ℕ) → Table → Type 0
AreBad rows counter c = (j : ℕ) → j < 512 → value counter j ≡ bad_in rows c j

-- what the fault comes to in lane j
abbrev pub fits_in : ScanTest → List PointRow → ℕ → Fault → ℕ → Bool
fits_in t rows b f j = agrees_in rows (fails_in (point_model t) b f) j

abbrev pub no_share : Share (List ℕ)
no_share = record { suspect = 0; part = [] }

abbrev pub lanes_at : List (List ℕ) → ℕ → List ℕ
lanes_at table i = slice_index_or table i []

-- in each lane, the fits are of those of the places whose faults fit
abbrev pub AreFits : ScanTest → List PointRow → ℕ → List ℕ → List Fit → Type 0
AreFits t rows b places fits = (j : ℕ) → j < 512 → places_in fits j ≡ filter (λ p. fits_in t rows b (fault_of t p) j) places

-- the numbers are places of faults
abbrev pub ArePlaces : ScanTest → List ℕ → Type 0
ArePlaces t places = All (λ p. p < length (universe t)) places
