-- The Failing and the Passing lanes of compact points in a block.
use Rattle.std.proofs.Common.{◌≡◌, ℕ, ◌<◌, ltb, ◌&&◌, List, length, ap, ◌∙◌, arith}
use Rattle.scan_model.specs.declared.values.Tri.{Tri}
use Rattle.scan_model.specs.declared.logs.LogFacts.{LogFacts}
use Rattle.scan_model.specs.Coverage.{bit_of}
use Rattle.scan_model.specs.ScanTest.{ScanTest}
use Rattle.lane_rows.specs.Lanes.{lane}
use Rattle.lane_rows.specs.GoodRows.{pattern_of}
use Rattle.log_rows.specs.declared.point_row.PointRow.{PointRow}
use Rattle.log_rows.specs.declared.side.Side.{Side}
use Rattle.log_rows.specs.declared.side.Side.TheVariants.{Failing, Passing}
use Rattle.log_rows.specs.PointRows.{is_on, is_on_at}
use Rattle.log_rows.specs.PlaceRows.{ArePlaceRows}
use Rattle.match_counts.specs.Flips.{row_on, point_row_at}
use Rattle.match_counts.specs.Sides.{classes_by, AreSideRows}
use Rattle.compact_points.specs.Channels.{Compactor}
use Rattle.compact_points.specs.Compaction.{compact_rows}
use Rattle.chain_compactor.specs.CompactMatches.{compact_class}
use Rattle.chain_compactor.specs.CompactModel.{compact_model}

module _ (t : ScanTest) (c : Compactor) (logs : List LogFacts) (expected : List (List Tri)) (patterns places b : ℕ) (rows : List PointRow)
    (is_expected : expected ≡ compact_rows t c) (is_patterns : patterns ≡ length t.patterns) (is_places : places ≡ length c.points) (are : ArePlaceRows logs expected patterns places b rows) where
  on_side : (side : Side) (w q : ℕ) → is_on_at logs expected patterns side w q ≡ (ltb w (length t.patterns) && is_on side (compact_class t c logs (bit_of w q)))
  on_side side w q =
      ap (λ (e : List (List Tri)). is_on_at logs e patterns side w q) is_expected
      ∙ ap (λ (n : ℕ). is_on_at logs (compact_rows t c) n side w q) is_patterns

  by_side : (side : Side) (q j : ℕ) → q < length c.points → j < 512 → lane (row_on side (point_row_at rows q)) j ≡ (ltb (pattern_of b j) (length t.patterns) && is_on side (compact_class t c logs (bit_of (pattern_of b j) q)))
  by_side Failing q j within lt = (are.each q (omega (arith, within, are.len, is_places))).failing j lt ∙ on_side Failing (pattern_of b j) q
  by_side Passing q j within lt = (are.each q (omega (arith, within, are.len, is_places))).passing j lt ∙ on_side Passing (pattern_of b j) q

  pub compact_sides : AreSideRows (compact_model t c) (classes_by (compact_class t c logs)) b rows
  compact_sides = record { len = are.len ∙ is_places; each = by_side }
