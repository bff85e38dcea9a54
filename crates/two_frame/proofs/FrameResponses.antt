-- What a point shows in the second frame of a pattern, and how many values there are.
use Rattle.std.proofs.Common.{◌≡◌, ℕ, List, length, None, sym, ap, ◌∙◌, arith}
use Rattle.std.specs.Prelude.{All}
use Rattle.std.proofs.lemmas.List.{length-map}
use Rattle.std.proofs.lemmas.List.FromFn.{length-map-range_with_len, get_or-map-range_with_len}
use Rattle.scan_model.specs.declared.values.Tri.{Tri}
use Rattle.scan_model.specs.declared.parts.Point.{Point}
use Rattle.scan_model.specs.Walks.{IsEvaluationOrder}
use Rattle.scan_model.specs.ScanTest.{ScanTest, IsScanTest, IsPoint, points_of}
use Rattle.scan_model.specs.NetValue.{values_of, nothing_forced}
use Rattle.scan_model.specs.Suspect.{observed_net}
use Rattle.scan_model.proofs.counting.Shown.{point_pin-net, observed_net-in_range}
use Rattle.log_join.specs.Joining.{JoinedBits, IsJoinedOf, FitsExpected}
use Rattle.frame_rows.specs.Frames.{second_source, second_value}
use Rattle.frame_rows.proofs.SecondValues.{none_is}
use Rattle.two_frame.specs.TwoFrame.{frame_observed, frame_response, frame_rows}

-- the net that a point observes has in the second frame what the point shows
pub net_shows : (t : ScanTest) → IsScanTest t → (order : List ℕ) → IsEvaluationOrder t.netlist order → (w : ℕ) (p : Point) → IsPoint t p
    → values_of t.netlist (second_source t w) nothing_forced (observed_net t p) ≡ frame_observed t None w p
net_shows t sound order ordered w p is_point =
    sym (none_is t sound order ordered w (observed_net t p) (observed_net-in_range t sound p is_point))
    ∙ ap (second_value t None w) (sym (point_pin-net t sound p is_point))

-- a row for each pattern
pub length-frame_rows : (t : ScanTest) → length (frame_rows t) ≡ length t.patterns
length-frame_rows t = length-map-range_with_len (frame_response t None) 0 (length t.patterns)

-- a value for each point
pub frame_points : (t : ScanTest) → All (λ row. length row ≡ length (points_of t)) (frame_rows t)
frame_points t w d lt =
    ap length (get_or-map-range_with_len (frame_response t None) 0 (length t.patterns) w w d (omega (arith, length-frame_rows t)) (omega arith))
    ∙ length-map (points_of t) (frame_observed t None w)

-- the expected values fit logs that are joined for the test
pub fits_frames : (t : ScanTest) (expected : List (List Tri)) (joined : JoinedBits) → expected ≡ frame_rows t → IsJoinedOf (length t.patterns) (length (points_of t)) joined → FitsExpected expected joined
fits_frames t expected joined is_expected is_joined = rw (is_expected, is_joined.0, is_joined.1) (length-frame_rows t, frame_points t)
