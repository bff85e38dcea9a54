-- The rows of expected values at the compact points.
use Rattle.std.proofs.Common.{◌≡◌, ℕ, ◌<◌, List, length, get_or, None, sym, ap, subst, ◌∙◌, arith}
use Rattle.std.specs.Prelude.{All}
use Rattle.std.proofs.lemmas.List.{length-map}
use Rattle.std.proofs.lemmas.List.FromFn.{length-map-range_with_len, get_or-map-range_with_len}
use Rattle.scan_model.specs.declared.values.Tri.{Tri}
use Rattle.scan_model.specs.ScanTest.{ScanTest}
use Rattle.log_join.specs.Joining.{JoinedBits, IsJoinedOf, FitsExpected}
use Rattle.compact_points.specs.Channels.{Compactor}
use Rattle.compact_points.specs.Compaction.{compact_value, compact_response, compact_rows}

module _ (t : ScanTest) (c : Compactor) where
  pub length-compact_rows : length (compact_rows t c) ≡ length t.patterns
  length-compact_rows = length-map-range_with_len (compact_response t c None) 0 (length t.patterns)

  pub compact_row : (w : ℕ) (d : List Tri) → w < length t.patterns → get_or (compact_rows t c) w d ≡ compact_response t c None w
  compact_row w d lt = get_or-map-range_with_len (compact_response t c None) 0 (length t.patterns) w w d lt (omega arith)

  pub compact_places : All (λ row. length row ≡ length c.points) (compact_rows t c)
  compact_places w d lt = ap length (compact_row w d (omega (arith, lt, length-compact_rows))) ∙ length-map c.points (compact_value t c None w)

  -- they fit joined logs of the compactor
  pub rows_fit : (joined : JoinedBits) → IsJoinedOf (length t.patterns) (length c.points) joined → FitsExpected (compact_rows t c) joined
  rows_fit joined is = (length-compact_rows ∙ sym is.0, subst (λ (n : ℕ). All (λ row. length row ≡ n) (compact_rows t c)) (sym is.1) compact_places)
