-- Counts by place, with their sums.
use Rattle.std.proofs.Common.{◌≡◌, ℕ, zero, suc, ◌+◌, ◌-◌, ◌<◌, ◌≤◌, Bool, cond, ◌&&◌, List, length, get_or, set, refl, sym, ap, subst, ◌∙◌, inl, inr, arith}
use Rattle.std.specs.Prelude.{replicate, sum_by}
use Rattle.std.specs.List.{range_with_len}
use Rattle.std.proofs.lemmas.Bool.{cases_eq, eq-eqb, ne_eqb}
use Rattle.std.proofs.lemmas.List.{get_or-set_same, get_or-set_other, get_or-replicate, length-set, length-replicate}
use Rattle.std.proofs.lemmas.List.Elements.{All-set}
use Rattle.std.proofs.lemmas.List.Sums.{sum_by-cons, sum_by-set, sum_by-le}
use Rattle.lane_rows.specs.Lanes.{lane, count_lanes}
use Rattle.lane_rows.proofs.LaneCounts.{same_lanes}
use Rattle.log_rows.specs.declared.point_row.PointRow.{PointRow}
use Rattle.log_rows.specs.declared.side.Side.{Side}
use Rattle.log_rows.specs.declared.side.Side.TheVariants.{Failing, Passing}
use Rattle.fault_effects.specs.FaultModel.{Table, no_places}
use Rattle.fault_effects.specs.Tables.{put_row}
use Rattle.match_counts.specs.declared.block_count.BlockCount.{BlockCount}
use Rattle.match_counts.specs.Flips.{row_on, point_row_at, count_on}
use Rattle.match_counts.specs.Tables.{lanes_of, sum_of_table}
use Rattle.match_counts.specs.PlaceCounts.{no_count, counted_at, IsSmall, AreSummed, ArePlaceCounts}
use Rattle.match_counts.proofs.LaneSums.{no_lanes}
use Rattle.match_counts.proofs.Sums.{sum_agree_in, sum_indexed}

none_on : (side : Side) → count_on side no_count ≡ 0
none_on Failing = refl
none_on Passing = refl

module _ (counts : List BlockCount) (sum : BlockCount) (is : AreSummed counts sum) where
  pub sum_bound : (side : Side) → count_on side sum ≤ 67108864
  sum_bound side = omega (arith, is.sums side, is.few, sum_by-le (count_on side) 512 counts (λ k d lt. is.small k d lt side))

  pub part_of_sum : (k : ℕ) (x : BlockCount) → k < length counts → x ≡ counted_at counts k → (side : Side) → count_on side x ≤ count_on side sum
  part_of_sum k x lt e side = rw e (omega (arith, is.sums side, sum_by-set (count_on side) counts k no_count no_count lt, none_on side))

  pub put_summed : (k : ℕ) (x count new : BlockCount) → k < length counts → x ≡ counted_at counts k → IsSmall count → ((side : Side) → count_on side new ≡ count_on side sum - count_on side x + count_on side count) → AreSummed (set counts k count) new
  put_summed k x count new lt e small are = record {
    few = omega (arith, is.few, length-set counts k count);
    small = All-set IsSmall counts k count small is.small;
    sums = λ side. omega (arith, are side, ap (count_on side) e, part_of_sum k x lt e side, is.sums side, sum_by-set (count_on side) counts k count no_count lt);
  }

-- so many zeros sum to zero
pub none_summed : (n : ℕ) → n ≤ 131072 → AreSummed (replicate n no_count) no_count
none_summed n few = record {
  few = omega (arith, length-replicate n no_count);
  small = λ k d lt side. rw (get_or-replicate n k no_count d (omega (arith, lt, length-replicate n no_count))) (omega (arith, none_on side));
  sums = λ side. none_on side ∙ sym (zeros side n);
}
  where
    zeros : (side : Side) (n : ℕ) → sum_by (count_on side) (replicate n no_count) ≡ 0
    zeros side zero = refl
    zeros side (suc n) = sum_by-cons (count_on side) no_count (replicate n no_count) ∙ omega (arith, none_on side, zeros side n)

-- ---- counts of a table

-- the counts of all places sum to the table's
pub counts_sum : (rows : List PointRow) (counts : List BlockCount) (c : Table) → ArePlaceCounts rows counts c → (side : Side) → sum_by (count_on side) counts ≡ sum_of_table rows side c
counts_sum rows counts c are side =
    sum_indexed (count_on side) counts no_count
    ∙ ap (λ (n : ℕ). sum_by (λ k. count_on side (get_or counts k no_count)) (range_with_len 0 n)) are.len
    ∙ sum_agree_in (λ k. count_on side (get_or counts k no_count)) (lanes_of rows side c) 0 (length rows) (λ k low high. are.each k (omega arith) side)

pub counts_none : (rows : List PointRow) (counts : List BlockCount) → counts ≡ replicate (length rows) no_count → ArePlaceCounts rows counts no_places
counts_none rows counts is = record {
  len = ap length is ∙ length-replicate (length rows) no_count;
  each = λ q lt side.
      ap (λ (xs : List BlockCount). count_on side (counted_at xs q)) is
      ∙ ap (count_on side) (get_or-replicate (length rows) q no_count no_count lt)
      ∙ none_on side
      ∙ sym (no_lanes (λ j. no_places q j && lane (row_on side (point_row_at rows q)) j) (λ j lane_lt. refl));
}

-- another row at one place
module _ (rows : List PointRow) (counts : List BlockCount) (c : Table) (place : ℕ) (new : List ℕ) (count : BlockCount) (within : place < length rows) (are : ArePlaceCounts rows counts c)
    (is : (side : Side) → count_on side count ≡ count_lanes (λ j. lane new j && lane (row_on side (point_row_at rows place)) j)) where
  here : (side : Side) → count_on side (counted_at (set counts place count) place) ≡ lanes_of rows side (put_row c place new) place
  here side =
      ap (count_on side) (get_or-set_same counts place count no_count (omega (arith, within, are.len)))
      ∙ is side
      ∙ same_lanes (λ j. lane new j && lane (row_on side (point_row_at rows place)) j) (λ j. put_row c place new place j && lane (row_on side (point_row_at rows place)) j)
      (λ j lt. ap (λ (x : Bool). cond x (lane new j) (c place j) && lane (row_on side (point_row_at rows place)) j) (sym (eq-eqb place place refl)))

  others : (q : ℕ) → q < length rows → (q ≡ place → ⊥) → (side : Side) → count_on side (counted_at (set counts place count) q) ≡ lanes_of rows side (put_row c place new) q
  others q lt other side =
      ap (count_on side) (get_or-set_other counts place q count no_count other)
      ∙ are.each q lt side
      ∙ same_lanes (λ j. c q j && lane (row_on side (point_row_at rows q)) j) (λ j. put_row c place new q j && lane (row_on side (point_row_at rows q)) j)
      (λ j lane_lt. ap (λ (x : Bool). cond x (lane new j) (c q j) && lane (row_on side (point_row_at rows q)) j) (sym (ne_eqb q place other)))

  pub counts_put : ArePlaceCounts rows (set counts place count) (put_row c place new)
  counts_put = record {
    len = length-set counts place count ∙ are.len;
    each = λ q lt side. elim (cases_eq q place) [
      | inl same ↦
          let At : ℕ → Type 0 = λ p. count_on side (counted_at (set counts place count) p) ≡ lanes_of rows side (put_row c place new) p in
          subst At (sym same) (here side)
      | inr other ↦ others q lt other side
    ];
  }
