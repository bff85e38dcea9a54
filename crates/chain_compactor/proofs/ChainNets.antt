-- The nets that the cells of chains observe, as a table has them.
use Rattle.std.proofs.Common.{◌≡◌, ℕ, ◌<◌, List, [], length, get_or, ap, ◌∙◌, arith, Vec, Global}
use Rattle.std.proofs.lemmas.List.{length-map}
use Rattle.std.proofs.lemmas.List.FromFn.{length-map-range_with_len, get_or-map-range_with_len}
use Rattle.scan_model.specs.declared.parts.Point.TheVariants.{Cell}
use Rattle.scan_model.specs.ScanTest.{ScanTest}
use Rattle.scan_model.specs.Suspect.{observed_net}
use Rattle.fail_logs.specs.Frames.{rows_view}
use Rattle.compact_points.specs.Channels.{chain_length}
use Rattle.chain_compactor.specs.ObservationPoints.{nets_of, chain_nets}

module _ (t : ScanTest) (rows : List (Vec ℕ Global)) (are : rows_view rows ≡ chain_nets t) (h : ℕ) (lt : h < length t.chains) where
  pub row_there : h < length rows
  row_there = omega (arith, lt, ap length are, length-map rows (λ (r : Vec ℕ Global). r.items), length-map-range_with_len (nets_of t) 0 (length t.chains))

  row_is : get_or (rows_view rows) h [] ≡ nets_of t h
  row_is = ap (λ (xs : List (List ℕ)). get_or xs h []) are ∙ get_or-map-range_with_len (nets_of t) 0 (length t.chains) h h [] lt (omega arith)

  -- there is one for each cell
  pub as_long : (own : List ℕ) → own ≡ get_or (rows_view rows) h [] → length own ≡ chain_length t h
  as_long own is = ap length (is ∙ row_is) ∙ length-map-range_with_len (λ i. observed_net t (Cell h i)) 0 (chain_length t h)

  pub net_is : (own : List ℕ) (i d : ℕ) → own ≡ get_or (rows_view rows) h [] → i < chain_length t h → get_or own i d ≡ observed_net t (Cell h i)
  net_is own i d is inside = ap (λ (ns : List ℕ). get_or ns i d) (is ∙ row_is) ∙ get_or-map-range_with_len (λ k. observed_net t (Cell h k)) 0 (chain_length t h) i i d inside (omega arith)
