-- Layouts by classes that are the same at each bit; among them the layout where the given expected values are those of the test.
use Rattle.std.proofs.Common.{◌≡◌, ℕ, ◌<◌, Bool, cond, List, [], ◌∷◌, length, refl, ap, ◌∙◌}
use Rattle.std.specs.Prelude.{filter}
use Rattle.std.specs.List.{AllByRecursion}
use Rattle.scan_model.specs.declared.values.Tri.{Tri}
use Rattle.scan_model.specs.declared.fault.Fault.{Fault}
use Rattle.scan_model.specs.declared.logs.Bit.{Bit}
use Rattle.scan_model.specs.declared.logs.BitClass.{BitClass}
use Rattle.scan_model.specs.declared.logs.LogFacts.{LogFacts}
use Rattle.scan_model.specs.declared.logs.Scored.{Scored}
use Rattle.scan_model.specs.ChainShift.{value_at}
use Rattle.scan_model.specs.ScanTest.{ScanTest, points_of}
use Rattle.scan_model.specs.Response.{expected_rows}
use Rattle.scan_model.specs.Coverage.{bit_of, bits_over}
use Rattle.scan_model.specs.Classes.{class, class_of, class_with, is_conflict, is_masked, is_failing, is_passing}
use Rattle.scan_model.specs.ReportText.{ReportForm, report_form, layout_with, layout_by_class, report_layout}
use Rattle.scan_model.proofs.ExpectedRows.{expected_row}
use Rattle.diag_report.specs.declared.tally.Tally.{Tally}
use Rattle.diag_report.specs.BitTally.{tally_over}
use Rattle.diag_report.specs.Layout.{layout}
use Rattle.diag_report.proofs.BitRanges.{each_bit_in}

kept_alike : (p q : Bit → Bool) (bits : List Bit) → AllByRecursion (λ b. p b ≡ q b) bits → filter p bits ≡ filter q bits
kept_alike p q [] same = refl
kept_alike p q (b ∷ bits) same =
    ap (λ (k : Bool). cond k (b ∷ filter p bits) (filter p bits)) same.0 ∙ ap (λ (kept : List Bit). cond (q b) (b ∷ kept) kept) (kept_alike p q bits same.1)

module _ (patterns points : ℕ) (classes others : Bit → BitClass) (alike : (w k : ℕ) → w < patterns → k < points → classes (bit_of w k) ≡ others (bit_of w k)) where
  those_alike : (is : BitClass → Bool) → filter (λ b. is (classes b)) (bits_over patterns points) ≡ filter (λ b. is (others b)) (bits_over patterns points)
  those_alike is =
      kept_alike (λ b. is (classes b)) (λ b. is (others b)) (bits_over patterns points)
      (each_bit_in patterns points (λ b. is (classes b) ≡ is (others b)) (λ w k w_lt k_lt. ap is (alike w k w_lt k_lt)))

  tally_alike : tally_over classes (bits_over patterns points) ≡ tally_over others (bits_over patterns points)
  tally_alike = rw (those_alike is_failing, those_alike is_passing, those_alike is_conflict, those_alike is_masked) refl

  -- where each bit has the same class the layout is the same
  pub layout_alike : (form : ReportForm) (design die : List ℕ) (count : ℕ) (rows : List Scored)
      → layout_with form (bits_over patterns points) design die count classes rows ≡ layout_with form (bits_over patterns points) design die count others rows
  layout_alike form design die count rows = ap (λ (tally : Tally). layout form design die count tally rows) tally_alike

-- the layout by the classes that these rows make is that of the logs over the test
pub layout_given : (t : ScanTest) (logs : List LogFacts) (given : List (List Tri)) → given ≡ expected_rows t → (faults : List Fault) (design die : List ℕ) (count : ℕ) (rows : List Scored)
    → layout_by_class faults t design die count (class_with given logs) rows ≡ report_layout faults t design die count logs rows
layout_given t logs given is faults design die count rows =
    ap (λ (values : List (List Tri)). layout_by_class faults t design die count (class_with values logs) rows) is
    ∙ layout_alike (length t.patterns) (length (points_of t)) (class_with (expected_rows t) logs) (class t logs)
    (λ w k w_lt k_lt. ap (λ (row : List Tri). class_of logs (value_at row k) (bit_of w k)) (expected_row t w [] w_lt))
    (report_form faults t) design die count rows
