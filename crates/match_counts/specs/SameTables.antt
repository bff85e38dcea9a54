-- Tables that agree have the same in the rows of a block's places, and a place that sees one point alone.
use Rattle.std.specs.Prelude.{◌≡◌, ℕ, ◌+◌, ◌<◌, All, Contains, List, [], ◌∷◌, length, map, Bool, true, ◌&&◌, ◌==◌, sum_by}
use Rattle.std.specs.List.{range_with_len, fold}
use Rattle.std.proofs.Common.{ap, sym, subst, ◌∙◌, eqb-true, lit<}
use Rattle.std.proofs.Math.Nat.{zero-add}
use Rattle.std.proofs.lemmas.List.Elements.{All-cons, All-nil}
use Rattle.std.proofs.lemmas.List.Folds.{fold-map}
use Rattle.std.proofs.lemmas.List.FromFn.{fill_by_all, length-map-range_with_len, get_or-map-range_with_len}
use Rattle.lane_rows.specs.Lanes.{lane}
use Rattle.bit_rows.proofs.LaneCounts.{same_lanes}
use Rattle.log_rows.specs.declared.point_row.PointRow.{PointRow}
use Rattle.log_rows.specs.declared.side.Side.{Side}
use Rattle.fault_effects.specs.FaultModel.{Table}
use Rattle.match_counts.specs.declared.block_count.BlockCount.{BlockCount}
use Rattle.match_counts.specs.Flips.{row_on, point_row_at}
use Rattle.match_counts.specs.PlaceCounts.{ArePlaceCounts}
use Rattle.match_counts.specs.Tables.{lanes_of, IsCount}

-- what agrees below n has the same sum below n
pub sums_agree : (f g : ℕ → ℕ) (n : ℕ) → ((k : ℕ) → k < n → f k ≡ g k) → sum_by f (range_with_len 0 n) ≡ sum_by g (range_with_len 0 n)
sums_agree f g n agree =
    sym (fold-map (λ (s x : ℕ). s + x) f 0 (range_with_len 0 n))
    ∙ ap (fold (λ (s x : ℕ). s + x) 0) (fill_by_all g (map f (range_with_len 0 n)) n 0 (length-map-range_with_len f 0 n) (λ k lt. get_or-map-range_with_len f 0 n k k 0 lt (zero-add k) ∙ agree k lt))
    ∙ fold-map (λ (s x : ℕ). s + x) g 0 (range_with_len 0 n)

-- the lanes of a place, where two tables agree
pub lanes_agree : (rows : List PointRow) (side : Side) (c d : Table) (q : ℕ) → ((j : ℕ) → j < 512 → c q j ≡ d q j) → lanes_of rows side c q ≡ lanes_of rows side d q
lanes_agree rows side c d q agree =
    same_lanes (λ j. c q j && lane (row_on side (point_row_at rows q)) j) (λ j. d q j && lane (row_on side (point_row_at rows q)) j)
    (λ j lt. ap (λ (x : Bool). x && lane (row_on side (point_row_at rows q)) j) (agree j lt))

module _ (places : ℕ) (rows : List PointRow) (c d : Table) (len : length rows ≡ places) (agree : (q j : ℕ) → q < places → j < 512 → c q j ≡ d q j) where
  agree_at : (side : Side) (q : ℕ) → q < length rows → lanes_of rows side c q ≡ lanes_of rows side d q
  agree_at side q lt = lanes_agree rows side c d q (λ j lane_lt. agree q j (subst (λ (n : ℕ). q < n) len lt) lane_lt)

  pub count_same : (count : BlockCount) → IsCount rows count c → IsCount rows count d
  count_same count is side = is side ∙ sums_agree (lanes_of rows side c) (lanes_of rows side d) (length rows) (agree_at side)

  pub counts_same : (counts : List BlockCount) → ArePlaceCounts rows counts c → ArePlaceCounts rows counts d
  counts_same counts are = record { len = are.len; each = λ q lt side. are.each q lt side ∙ agree_at side q lt }

pub one_there : (places k : ℕ) → k < places → All (λ q. q < places) (k ∷ [])
one_there places k lt = All-cons (λ q. q < places) k [] lt (All-nil (λ q. q < places))

pub one_all : (k q : ℕ) → (q == k) ≡ true → Contains (k ∷ []) q
one_all k q sees = (0, lit< tt, sym (eqb-true q k sees))
