-- Sums over places of which a set alone has something.
use Rattle.std.proofs.Common.{◌≡◌, ℕ, zero, suc, ◌+◌, ◌-◌, ◌<◌, ◌≤◌, Bool, true, false, ◌&&◌, List, length, refl, sym, ap, subst, ◌∙◌, arith}
use Rattle.std.specs.Prelude.{sum_by}
use Rattle.std.specs.List.{range_with_len}
use Rattle.lane_rows.specs.Lanes.{lane, count_lanes}
use Rattle.place_sets.specs.Places.{has_place}
use Rattle.lane_rows.proofs.LaneCounts.{same_lanes}
use Rattle.log_rows.specs.declared.point_row.PointRow.{PointRow}
use Rattle.log_rows.specs.declared.side.Side.{Side}
use Rattle.fault_effects.specs.FaultModel.{Table}
use Rattle.match_counts.specs.Flips.{row_on, point_row_at}
use Rattle.match_counts.specs.declared.flip_rows.FlipRows.{FlipRows}
use Rattle.match_counts.specs.SameTables.{sums_agree, lanes_agree}
use Rattle.match_counts.specs.Tables.{lanes_of, HasTable}
use Rattle.match_counts.proofs.BlockSums.{sum_by_block}
use Rattle.match_counts.proofs.LaneSums.{no_lanes}
use Rattle.chain_compactor.specs.CompactCounts.{within_set}

skipped : (f : ℕ → ℕ) (a n : ℕ) → ((k : ℕ) → a ≤ k → k < a + n → f k ≡ 0) → sum_by f (range_with_len 0 (a + n)) ≡ sum_by f (range_with_len 0 a)
skipped f a zero none =
    let same : a + 0 ≡ a = omega arith in
    ap (λ (m : ℕ). sum_by f (range_with_len 0 m)) same
skipped f a (suc n) none =
    let up : a + suc n ≡ (a + n) + 1 = omega arith in
    let last : f (a + n) ≡ 0 = none (a + n) (omega arith) (omega arith) in
    let rest = skipped f a n (λ k low high. none k low (omega arith)) in
    ap (λ (m : ℕ). sum_by f (range_with_len 0 m)) up ∙ sum_by_block f (a + n) ∙ omega (arith, last, rest)

-- nothing from place a up to place b
pub sum_up_to : (f : ℕ → ℕ) (a b : ℕ) → a ≤ b → ((k : ℕ) → a ≤ k → k < b → f k ≡ 0) → sum_by f (range_with_len 0 b) ≡ sum_by f (range_with_len 0 a)
sum_up_to f a b le none =
    let end : b ≡ a + (b - a) = omega arith in
    ap (λ (m : ℕ). sum_by f (range_with_len 0 m)) end ∙ skipped f a (b - a) (λ k low high. none k low (omega arith))

-- and then place b
pub sum_next_place : (f : ℕ → ℕ) (a b : ℕ) → a ≤ b → ((k : ℕ) → a ≤ k → k < b → f k ≡ 0) → sum_by f (range_with_len 0 (b + 1)) ≡ sum_by f (range_with_len 0 a) + f b
sum_next_place f a b le none = sum_by_block f b ∙ ap (λ (n : ℕ). n + f b) (sum_up_to f a b le none)

-- a place that the set hasn't
pub absent_place : (rows : List PointRow) (side : Side) (set : List ℕ) (c : Table) (m : ℕ → Bool) (q : ℕ) → has_place set q ≡ false → lanes_of rows side (λ p j. within_set set c p j && m j) q ≡ 0
absent_place rows side set c m q none =
    no_lanes (λ j. (within_set set c q j && m j) && lane (row_on side (point_row_at rows q)) j) (λ j lt. ap (λ (b : Bool). ((b && c q j) && m j) && lane (row_on side (point_row_at rows q)) j) none)

and_moved : (a b c : Bool) → ((a && b) && c) ≡ ((a && c) && b)
and_moved false b c = refl
and_moved true true true = refl
and_moved true true false = refl
and_moved true false true = refl
and_moved true false false = refl

-- one that it has
pub present_place : (rows : List PointRow) (side : Side) (set : List ℕ) (c : Table) (m : ℕ → Bool) (q : ℕ) (row : List ℕ) → has_place set q ≡ true → ((j : ℕ) → j < 512 → lane row j ≡ c q j)
    → count_lanes (λ j. (lane row j && lane (row_on side (point_row_at rows q)) j) && m j) ≡ lanes_of rows side (λ p j. within_set set c p j && m j) q
present_place rows side set c m q row has is =
    same_lanes (λ j. (lane row j && lane (row_on side (point_row_at rows q)) j) && m j) (λ j. (within_set set c q j && m j) && lane (row_on side (point_row_at rows q)) j)
    (λ j lt. ap (λ (b : Bool). (b && lane (row_on side (point_row_at rows q)) j) && m j) (is j lt) ∙ and_moved (c q j) (lane (row_on side (point_row_at rows q)) j) (m j)
    ∙ sym (ap (λ (b : Bool). ((b && c q j) && m j) && lane (row_on side (point_row_at rows q)) j) has))

-- lists that have a table have each that agrees with it
pub table_same : (places : ℕ) (rows : List PointRow) (c d : Table) → length rows ≡ places → ((q j : ℕ) → q < places → j < 512 → c q j ≡ d q j) → (shown : FlipRows) → HasTable rows shown c → HasTable rows shown d
table_same places rows c d len agree shown has side m =
    has side m
    ∙ sums_agree (lanes_of rows side (λ q j. c q j && m j)) (lanes_of rows side (λ q j. d q j && m j)) (length rows)
    (λ q lt. lanes_agree rows side (λ p j. c p j && m j) (λ p j. d p j && m j) q (λ j lane_lt. ap (λ (x : Bool). x && m j) (agree q j (subst (λ (n : ℕ). q < n) len lt) lane_lt)))
