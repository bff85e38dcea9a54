-- Expected values fit logs that are joined for the same test.
use Rattle.std.proofs.Common.{◌≡◌, List, length}
use Rattle.scan_model.specs.declared.values.Tri.{Tri}
use Rattle.scan_model.specs.ScanTest.{ScanTest, points_of}
use Rattle.scan_model.specs.Response.{expected_rows}
use Rattle.scan_model.proofs.ExpectedRows.{length-expected_rows, expected_points}
use Rattle.log_join.specs.Joining.{JoinedBits, IsJoinedOf, FitsExpected}

pub fits_expected : (t : ScanTest) (rows : List (List Tri)) (joined : JoinedBits) → rows ≡ expected_rows t → IsJoinedOf (length t.patterns) (length (points_of t)) joined → FitsExpected rows joined
fits_expected t rows joined is_rows is_joined = rw (is_rows, is_joined.0, is_joined.1) (length-expected_rows t, expected_points t)
