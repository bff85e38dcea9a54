-- The rows of expected values.
use Rattle.std.proofs.Common.{◌≡◌, ℕ, ◌<◌, List, length, get_or, None, ap, ◌∙◌, arith}
use Rattle.std.specs.Prelude.{All}
use Rattle.std.proofs.lemmas.List.{length-map}
use Rattle.std.proofs.lemmas.List.FromFn.{length-map-range_with_len, get_or-map-range_with_len}
use Rattle.scan_model.specs.declared.values.Tri.{Tri}
use Rattle.scan_model.specs.ScanTest.{ScanTest, points_of}
use Rattle.scan_model.specs.Response.{response, expected_rows, observed}

-- a row for each pattern
pub length-expected_rows : (t : ScanTest) → length (expected_rows t) ≡ length t.patterns
length-expected_rows t = length-map-range_with_len (response t None) 0 (length t.patterns)

pub expected_row : (t : ScanTest) (w : ℕ) (d : List Tri) → w < length t.patterns → get_or (expected_rows t) w d ≡ response t None w
expected_row t w d lt = get_or-map-range_with_len (response t None) 0 (length t.patterns) w w d lt (omega arith)

-- a value for each point
pub expected_points : (t : ScanTest) → All (λ row. length row ≡ length (points_of t)) (expected_rows t)
expected_points t w d lt = ap length (expected_row t w d (omega (arith, length-expected_rows t))) ∙ length-map (points_of t) (observed t None w)
