-- Totals block by block, and what they come to.
use Rattle.std.proofs.Common.{◌≡◌, ℕ, ◌+◌, ◌*◌, ◌≤◌, Bool, ltb, List, length, get_or, ◌&&◌, refl, sym, ap, ◌∙◌, arith}
use Rattle.std.specs.Prelude.{filter, sum_by, count_by}
use Rattle.std.specs.List.{range_with_len, enumerate_from}
use Rattle.std.proofs.lemmas.List.{length-map}
use Rattle.std.proofs.lemmas.List.Sums.{sum_by_push, length-filter, count_by-le-length}
use Rattle.std.proofs.lemmas.List.FromFn.{length-enumerate_from}
use Rattle.scan_model.specs.declared.fault.Fault.{Fault}
use Rattle.scan_model.specs.declared.logs.Bit.{Bit}
use Rattle.scan_model.specs.declared.logs.LogFacts.{LogFacts}
use Rattle.scan_model.specs.declared.logs.BitClass.{BitClass}
use Rattle.scan_model.specs.ScanTest.{ScanTest}
use Rattle.scan_model.specs.Universe.{universe}
use Rattle.scan_model.specs.Suspect.{suspects, is_suspect}
use Rattle.scan_model.specs.Coverage.{bit_of, bits_over}
use Rattle.scan_model.specs.Classes.{is_failing}
use Rattle.fault_universe.proofs.BitSteps.{range_more}
use Rattle.fault_effects.specs.declared.share.Share.{Share}
use Rattle.match_counts.specs.declared.block_count.BlockCount.{BlockCount}
use Rattle.match_counts.specs.declared.totals.Total.{Total}
use Rattle.fault_effects.specs.declared.suspect.Suspect.{Suspect}
use Rattle.log_rows.specs.declared.side.Side.{Side}
use Rattle.log_rows.specs.declared.side.Side.TheVariants.{Failing, Passing}
use Rattle.lane_rows.specs.Lanes.{lane, count_lanes}
use Rattle.lane_rows.specs.GoodRows.{pattern_of}
use Rattle.lane_rows.proofs.LaneCounts.{count_lanes_is, same_lanes}
use Rattle.log_rows.specs.declared.point_row.PointRow.{PointRow}
use Rattle.log_rows.specs.PointRows.{is_on, no_point_row}
use Rattle.match_counts.specs.Hits.{hits}
use Rattle.fault_effects.specs.FaultModel.{FaultModel}
use Rattle.fault_effects.specs.Owners.{suspect_at}
use Rattle.match_counts.specs.Flips.{row_on, point_row_at}
use Rattle.match_counts.specs.Sides.{Classes, classes_by, IsOfBits, hits_in, lanes_at, predicted_in, count_in, AreSideRows}
use Rattle.match_counts.specs.Totals.{total_at, no_total, plus, sum_of, AreCounts, IsAdded, AreTotalsAtMost, TotalsSoFar, AreBlockShares, AreCounted, AreTotals}
use Rattle.match_counts.proofs.Sums.{sum_agree, sum_agree_in, sum_indexed}
use Rattle.match_counts.proofs.Hits.{bits_by_block}
use Rattle.match_counts.proofs.TableSums.{counts_are}

abbrev total : ℕ → ℕ → Total
total a b = record { tfsf = a; tpsf = b }

same_total : (a b x y : ℕ) → a ≡ b → x ≡ y → total a x ≡ total b y
same_total a b x y first second = rw (first, second) refl

pub sum_by_block : (f : ℕ → ℕ) (b : ℕ) → sum_by f (range_with_len 0 (b + 1)) ≡ sum_by f (range_with_len 0 b) + f b
sum_by_block f b = ap (sum_by f) (range_more b) ∙ sum_by_push f (range_with_len 0 b) b

-- the Failing bits of a block
pub failing_is : (m : FaultModel) (on : Classes) (b : ℕ) (rows : List PointRow) → AreSideRows m on b rows → sum_by (λ r. count_lanes (lane r.failing)) rows ≡ hits_in m (on Failing) b
failing_is m on b rows sided =
    let f : PointRow → ℕ = λ r. count_lanes (lane r.failing) in
    sum_indexed f rows no_point_row
    ∙ ap (λ (n : ℕ). sum_by (λ k. f (get_or rows k no_point_row)) (range_with_len 0 n)) sided.len
    ∙ sum_agree_in (λ k. f (get_or rows k no_point_row)) (lanes_at m (on Failing) b) 0 m.places (λ k low high. same_lanes (lane (row_on Failing (point_row_at rows k))) _ (λ j lt. sided.each Failing k j (omega arith) lt))

module _ (m : FaultModel) (on : Classes) (suspects : List Suspect) where
  sum_more : (b : ℕ) (f : Fault) → sum_of m on (b + 1) f ≡ plus (sum_of m on b f) (count_in m on b f)
  sum_more b f = same_total _ _ _ _ (sum_by_block (predicted_in m on Failing f) b) (sum_by_block (predicted_in m on Passing f) b)

  -- before the first block
  pub counted_none : (counts : TotalsSoFar) → counts.blocks ≡ 0 → counts.failing ≡ 0 → ((i : ℕ) → total_at counts.totals i ≡ no_total) → AreCounted m on suspects counts
  counted_none counts none no_failing blank = record {
    failing = no_failing ∙ ap (λ (n : ℕ). sum_by (hits_in m (on Failing)) (range_with_len 0 n)) (sym none);
    sums = λ i lt. blank i ∙ ap (λ (n : ℕ). sum_of m on n (suspect_at suspects i).fault) (sym none);
  }

  -- one block more
  pub counted_next : (old new : TotalsSoFar) (rows : List PointRow) (shares : List (Share BlockCount)) → new.blocks ≡ old.blocks + 1 → new.failing ≡ old.failing + sum_by (λ r. count_lanes (lane r.failing)) rows
      → ((truth : ℕ → BlockCount) → AreCounts truth shares → IsAdded truth shares old.totals new.totals)
      → AreSideRows m on old.blocks rows → AreBlockShares m old.blocks rows suspects shares → AreCounted m on suspects old → AreCounted m on suspects new
  counted_next old new rows shares next more added sided given so_far =
      let b = old.blocks in
      let h : ℕ → ℕ = hits_in m (on Failing) in
      let right = counts_are m on b rows sided suspects shares given.right in
      record {
        failing =
            more
            ∙ ap (λ (n : ℕ). n + sum_by (λ r. count_lanes (lane r.failing)) rows) so_far.failing
            ∙ ap (λ (n : ℕ). sum_by h (range_with_len 0 b) + n) (failing_is m on b rows sided)
            ∙ sym (sum_by_block h b)
            ∙ ap (λ (n : ℕ). sum_by h (range_with_len 0 n)) (sym next);
        sums = λ i lt.
            let f = (suspect_at suspects i).fault in
            added (λ k. count_in m on b (suspect_at suspects k).fault) right i (given.there i lt)
            ∙ ap (λ (x : Total). plus x (count_in m on b f)) (so_far.sums i lt)
            ∙ sym (sum_more b f)
            ∙ ap (λ (n : ℕ). sum_of m on n f) (sym next);
      }

-- ---- over all bits

-- lanes of a place, for a number of lanes that is 512
lanes_are : (f : ℕ → ℕ → Bool) (lanes : ℕ) → lanes ≡ 512 → count_by (f lanes) (range_with_len 0 lanes) ≡ count_lanes (f 512)
lanes_are f lanes e = sym (count_lanes_is (f lanes) lanes e) ∙ ap (λ (n : ℕ). count_lanes (f n)) e

module _ (m : FaultModel) (patterns : ℕ) (exists : (w : ℕ) → m.exists w ≡ ltb w patterns) (passes : Bit → Bool) (on : ℕ → ℕ → Bool) (same : (w q : ℕ) → on w q ≡ passes (bit_of w q)) where
  hits_are : (b lanes : ℕ) → lanes ≡ 512 → hits lanes patterns m.places passes b ≡ hits_in m on b
  hits_are b lanes e =
      sum_agree (λ (k : ℕ). count_by (λ j. ltb (lanes * b + j) patterns && passes (bit_of (lanes * b + j) k)) (range_with_len 0 lanes)) (lanes_at m on b) (range_with_len 0 m.places)
      (λ k. lanes_are (λ n j. ltb (n * b + j) patterns && passes (bit_of (n * b + j) k)) lanes e
      ∙ same_lanes (λ j. ltb (512 * b + j) patterns && passes (bit_of (512 * b + j) k)) (λ j. m.exists (pattern_of b j) && on (pattern_of b j) k)
      (λ j lt. ap (λ (x : Bool). x && passes (bit_of (pattern_of b j) k)) (sym (exists (pattern_of b j))) ∙ ap (λ (x : Bool). m.exists (pattern_of b j) && x) (sym (same (pattern_of b j) k))))

  by_blocks_in : (blocks lanes : ℕ) → lanes ≡ 512 → patterns ≤ lanes * blocks → count_by passes (bits_over patterns m.places) ≡ sum_by (hits_in m on) (range_with_len 0 blocks)
  by_blocks_in blocks lanes e le = bits_by_block patterns m.places passes lanes blocks le ∙ sum_agree (hits lanes patterns m.places passes) (hits_in m on) (range_with_len 0 blocks) (λ b. hits_are b lanes e)

  -- a count of bits is one by blocks
  pub by_blocks : (blocks : ℕ) → patterns ≤ 512 * blocks → count_by passes (bits_over patterns m.places) ≡ sum_by (hits_in m on) (range_with_len 0 blocks)
  by_blocks blocks le = by_blocks_in blocks 512 refl le

-- after the last block
pub totals_are : (m : FaultModel) (patterns : ℕ) (classes : Bit → BitClass) (fails : Fault → Bit → Bool) (suspects : List Suspect) (counts : TotalsSoFar) → IsOfBits m patterns fails → patterns ≤ 512 * counts.blocks
    → AreCounted m (classes_by classes) suspects counts → AreTotals (bits_over patterns m.places) classes fails suspects counts
totals_are m patterns classes fails suspects counts of_bits le counted =
    let side_sum : (side : Side) (f : Fault) → sum_by (predicted_in m (classes_by classes) side f) (range_with_len 0 counts.blocks) ≡ count_by (λ x. is_on side (classes x) && fails f x) (bits_over patterns m.places) = λ side f.
    sym (by_blocks m patterns of_bits.exists (λ x. is_on side (classes x) && fails f x) (λ w q. classes_by classes side w q && m.fails f w q)
    (λ w q. ap (λ (x : Bool). is_on side (classes (bit_of w q)) && x) (of_bits.fails f w q)) counts.blocks le) in
    record {
      failing = counted.failing ∙ sym (by_blocks m patterns of_bits.exists (λ x. is_failing (classes x)) (classes_by classes Failing) (λ w q. refl) counts.blocks le);
      whole = λ i lt. counted.sums i lt ∙ same_total _ _ _ _ (side_sum Failing (suspect_at suspects i).fault) (side_sum Passing (suspect_at suspects i).fault);
    }

pub AreTotalsAtMost-le : (m n : ℕ) (totals : List Total) → m ≤ n → AreTotalsAtMost m totals → AreTotalsAtMost n totals
AreTotalsAtMost-le m n totals le all p = let at = all p in record { tfsf = omega (arith, le, at.tfsf); tpsf = omega (arith, le, at.tpsf) }

-- there are no more suspects than faults
pub suspects_few : (t : ScanTest) (logs : List LogFacts) → length (suspects t logs) ≤ length (universe t)
suspects_few t logs =
    let es = enumerate_from 0 (universe t) in
    let p : ℕ × Fault → Bool = λ e. is_suspect t logs e.1 in
    omega (arith, length-map (filter p es) (λ e. e.0), length-filter p es, count_by-le-length p es, length-enumerate_from 0 (universe t))
