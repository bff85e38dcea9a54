-- The layout where the given expected values are those of the second frame.
use Rattle.std.proofs.Common.{◌≡◌, ℕ, ◌<◌, List, [], length, get_or, None, ap, ◌∙◌, arith}
use Rattle.std.proofs.lemmas.List.FromFn.{get_or-map-range_with_len}
use Rattle.scan_model.specs.declared.values.Tri.{Tri}
use Rattle.scan_model.specs.declared.logs.LogFacts.{LogFacts}
use Rattle.scan_model.specs.declared.logs.Scored.{Scored}
use Rattle.scan_model.specs.ChainShift.{value_at}
use Rattle.scan_model.specs.ScanTest.{ScanTest, points_of}
use Rattle.scan_model.specs.Coverage.{bit_of}
use Rattle.scan_model.specs.Classes.{class_of, class_with}
use Rattle.diag_report.proofs.GivenRows.{layout_alike}
use Rattle.two_frame.specs.TwoFrame.{frame_response, frame_rows, frame_class, frame_form, frame_layout}

pub frame_row : (t : ScanTest) (w : ℕ) (d : List Tri) → w < length t.patterns → get_or (frame_rows t) w d ≡ frame_response t None w
frame_row t w d lt = get_or-map-range_with_len (frame_response t None) 0 (length t.patterns) w w d lt (omega arith)

pub frame_layout_given : (t : ScanTest) (logs : List LogFacts) (given : List (List Tri)) → given ≡ frame_rows t → (design die : List ℕ) (count : ℕ) (rows : List Scored)
    → frame_layout t design die count (class_with given logs) rows ≡ frame_layout t design die count (frame_class t logs) rows
frame_layout_given t logs given is design die count rows =
    ap (λ (values : List (List Tri)). frame_layout t design die count (class_with values logs) rows) is
    ∙ layout_alike (length t.patterns) (length (points_of t)) (class_with (frame_rows t) logs) (frame_class t logs)
    (λ w k w_lt k_lt. ap (λ (row : List Tri). class_of logs (value_at row k) (bit_of w k)) (frame_row t w [] w_lt))
    (frame_form t) design die count rows
