-- What tables have in the rows of a block's places.
use Rattle.std.proofs.Common.{◌≡◌, ℕ, ◌+◌, ◌*◌, ◌^◌, ◌<◌, ◌≤◌, Bool, true, false, cond, ltb, ◌&&◌, ◌||◌, List, length, refl, sym, ap, ◌∙◌, arith}
use Rattle.std.specs.Prelude.{sum_by, count_by}
use Rattle.std.specs.List.{range_with_len}
use Rattle.std.proofs.lemmas.List.Sums.{sum_by-le}
use Rattle.std.proofs.lemmas.List.Elements.{All-weaker}
use Rattle.std.proofs.lemmas.List.FromFn.{length-range_with_len}
use Rattle.scan_model.specs.declared.fault.Fault.{Fault}
use Rattle.scan_model.specs.declared.logs.LogFacts.{LogFacts}
use Rattle.scan_model.specs.ScanTest.{ScanTest, points_of}
use Rattle.scan_model.specs.Coverage.{bit_of}
use Rattle.scan_model.specs.Classes.{class}
use Rattle.scan_model.specs.Masks.{flip_shows_from}
use Rattle.lane_rows.specs.Lanes.{lane, count_lanes}
use Rattle.lane_rows.specs.GoodRows.{pattern_of}
use Rattle.lane_rows.proofs.LaneCounts.{count_lanes_is, same_lanes}
use Rattle.lane_rows.specs.Stimuli.{Stimuli}
use Rattle.packed_sim.specs.declared.good.PackedGood.{PackedGood}
use Rattle.packed_sim.specs.declared.scratch.Scratch.{Scratch}
use Rattle.packed_sim.specs.PackedParts.{block_at, observed_at}
use Rattle.log_rows.specs.declared.point_row.PointRow.{PointRow}
use Rattle.fault_effects.specs.declared.share.Share.{Share}
use Rattle.fault_effects.specs.declared.suspect.Suspect.{Suspect}
use Rattle.log_rows.specs.declared.side.Side.{Side}
use Rattle.log_rows.specs.declared.side.Side.TheVariants.{Failing, Passing}
use Rattle.fault_effects.specs.FaultModel.{FaultModel, Table, fails_in, point_model}
use Rattle.fault_effects.specs.Owners.{suspect_at}
use Rattle.fault_effects.specs.Shares.{AreRight, suspect_fails}
use Rattle.log_rows.specs.PointRows.{is_on, ArePointRows}
use Rattle.match_counts.specs.declared.block_count.BlockCount.{BlockCount}
use Rattle.match_counts.specs.declared.flip_rows.FlipRows.{FlipRows}
use Rattle.match_counts.specs.Flips.{row_on, point_row_at, count_on, differs, caught_lane, IsShown, AreFew}
use Rattle.match_counts.specs.Tables.{lanes_of, sum_of_table, HasTable, IsCount, shown_under}
use Rattle.match_counts.specs.Sides.{Classes, classes_by, predicted_in, count_in, AreSideRows}
use Rattle.match_counts.specs.Totals.{AreCounts}
use Rattle.match_counts.proofs.Sums.{sum_agree_in, sum_plus, sum_zero}
use Rattle.match_counts.proofs.LaneSums.{few_lanes, no_lanes}

-- an empty table has nothing
pub none_sum : (rows : List PointRow) (side : Side) (c : Table) → ((q j : ℕ) → c q j ≡ false) → sum_of_table rows side c ≡ 0
none_sum rows side c none =
    sum_agree_in (lanes_of rows side c) (λ q. 0) 0 (length rows) (λ q low high. no_lanes (λ j. c q j && lane (row_on side (point_row_at rows q)) j) (λ j lt. ap (λ (x : Bool). x && lane (row_on side (point_row_at rows q)) j) (none q j)))
    ∙ sum_zero (range_with_len 0 (length rows))

-- no table has as many lanes as a word counts
pub few_of : (rows : List PointRow) (side : Side) (c : Table) → length rows ≤ 131072 → sum_of_table rows side c < 2 ^ 31
few_of rows side c few =
    let bound : sum_of_table rows side c ≤ length (range_with_len 0 (length rows)) * 512 = sum_by-le (lanes_of rows side c) 512 (range_with_len 0 (length rows)) (λ k d lt. few_lanes (λ j. c _ j && lane (row_on side (point_row_at rows _)) j)) in
    omega (arith, bound, length-range_with_len 0 (length rows))

pub few_kept : (rows : List PointRow) (shown : FlipRows) (c : Table) → length rows ≤ 131072 → HasTable rows shown c → AreFew shown
few_kept rows shown c few has side m = omega (arith, has side m, few_of rows side (λ q j. c q j && m j) few)

-- ---- two tables that share no lane

lanes_plus_in : (r p q : ℕ → Bool) (n : ℕ) → n ≡ 512 → ((j : ℕ) → j < 512 → cond {A = ℕ} (r j) 1 0 ≡ cond (p j) 1 0 + cond (q j) 1 0) → count_lanes r ≡ count_lanes p + count_lanes q
lanes_plus_in r p q n e each =
    count_lanes_is r n e
    ∙ sum_agree_in (λ j. cond (r j) 1 0) (λ j. cond (p j) 1 0 + cond (q j) 1 0) 0 n (λ j low high. each j (omega (arith, high, e)))
    ∙ sum_plus (λ (j : ℕ). cond (p j) 1 0) (λ (j : ℕ). cond (q j) 1 0) (range_with_len 0 n)
    ∙ sym (ap (λ (k : ℕ). k + count_lanes q) (count_lanes_is p n e) ∙ ap (λ (k : ℕ). count_by p (range_with_len 0 n) + k) (count_lanes_is q n e))

either : (c d r : Bool) → (c && d) ≡ false → cond {A = ℕ} ((c || d) && r) 1 0 ≡ cond (c && r) 1 0 + cond (d && r) 1 0
either true true r apart = absurd cc
either true false true apart = omega arith
either true false false apart = omega arith
either false d r apart = omega arith

pub both_sums : (rows : List PointRow) (side : Side) (c d : Table) → ((q p j : ℕ) → j < 512 → (c q j && d p j) ≡ false) → sum_of_table rows side (λ q j. c q j || d q j) ≡ sum_of_table rows side c + sum_of_table rows side d
both_sums rows side c d apart =
    sum_agree_in (lanes_of rows side (λ q j. c q j || d q j)) (λ q. lanes_of rows side c q + lanes_of rows side d q) 0 (length rows) (λ q low high.
    lanes_plus_in (λ j. (c q j || d q j) && lane (row_on side (point_row_at rows q)) j) (λ j. c q j && lane (row_on side (point_row_at rows q)) j) (λ j. d q j && lane (row_on side (point_row_at rows q)) j) 512 refl
    (λ j lt. either (c q j) (d q j) (lane (row_on side (point_row_at rows q)) j) (apart q q j lt)))
    ∙ sum_plus (lanes_of rows side c) (lanes_of rows side d) (range_with_len 0 (length rows))

-- ---- a scratch that shows a flip

flip_bits : (d l c f r m : Bool) → l ≡ c → (c ≡ true → d ≡ f) → (((d && l) && r) && m) ≡ (((c && f) && m) && r)
flip_bits d l false f r m is same = rw is (off d)
  where
    off : (d : Bool) → (((d && false) && r) && m) ≡ false
    off true = refl
    off false = refl
flip_bits d l true f r m is same = rw (is, same refl) (on f r m)
  where
    on : (f r m : Bool) → (((f && true) && r) && m) ≡ ((f && m) && r)
    on false r m = refl
    on true true true = refl
    on true true false = refl
    on true false true = refl
    on true false false = refl

pub flip_table : (t : ScanTest) (σ : Stimuli) (g : PackedGood) (s : Scratch) (b n : ℕ) (rows : List PointRow) (shown : FlipRows) → ((j : ℕ) → j < 512 → lane (block_at g b).capture j ≡ σ.captures (pattern_of b j)) → length rows ≡ length (points_of t)
    → ((k j : ℕ) → k < length (points_of t) → j < 512 → σ.captures (pattern_of b j) ≡ true → differs t g s b k j ≡ flip_shows_from t.netlist (σ.source (pattern_of b j)) n (observed_at t k))
    → IsShown t g s b rows shown → HasTable rows shown (shown_under t σ b n)
flip_table t σ g s b n rows shown capture len shows is side m =
    let c = shown_under t σ b n in
    is side m
    ∙ ap (λ (p : ℕ). sum_by (λ k. count_lanes (λ j. caught_lane t g s b rows side k j && m j)) (range_with_len 0 p)) (sym len)
    ∙ sum_agree_in (λ k. count_lanes (λ j. caught_lane t g s b rows side k j && m j)) (lanes_of rows side (λ q j. c q j && m j)) 0 (length rows) (λ k low high.
    same_lanes (λ j. caught_lane t g s b rows side k j && m j) (λ j. (c k j && m j) && lane (row_on side (point_row_at rows k)) j) (λ j lt.
    flip_bits (differs t g s b k j) (lane (block_at g b).capture j) (σ.captures (pattern_of b j)) (flip_shows_from t.netlist (σ.source (pattern_of b j)) n (observed_at t k)) (lane (row_on side (point_row_at rows k)) j) (m j)
    (capture j lt) (shows k j (omega (arith, len)) lt)))

-- ---- what a count says

count_bits : (e f o : Bool) → ((e && f) && (e && o)) ≡ (e && (o && f))
count_bits false f o = refl
count_bits true true true = refl
count_bits true true false = refl
count_bits true false true = refl
count_bits true false false = refl

abbrev block_count : ℕ → ℕ → BlockCount
block_count tfsf tpsf = record { tfsf = tfsf; tpsf = tpsf }

same_count : (a b x y : ℕ) → a ≡ b → x ≡ y → block_count a x ≡ block_count b y
same_count a b x y first second = rw (first, second) refl

module _ (m : FaultModel) (on : Classes) (b : ℕ) (rows : List PointRow) (sided : AreSideRows m on b rows) where
  -- of where a fault predicts fails
  pub count_is : (f : Fault) (count : BlockCount) → IsCount rows count (fails_in m b f) → count ≡ count_in m on b f
  count_is f count is =
      let by_side : (side : Side) → count_on side count ≡ predicted_in m on side f b = λ side.
      is side
      ∙ ap (λ (p : ℕ). sum_by (lanes_of rows side (fails_in m b f)) (range_with_len 0 p)) sided.len
      ∙ sum_agree_in (lanes_of rows side (fails_in m b f)) _ 0 m.places (λ q low high.
      same_lanes (λ j. fails_in m b f q j && lane (row_on side (point_row_at rows q)) j) _ (λ j lt.
      ap (λ (x : Bool). fails_in m b f q j && x) (sided.each side q j (omega arith) lt)
      ∙ count_bits (m.exists (pattern_of b j)) (m.fails f (pattern_of b j) q) (on side (pattern_of b j) q))) in
      same_count _ _ _ _ (by_side Failing) (by_side Passing)

  -- of all shares
  pub counts_are : (suspects : List Suspect) (shares : List (Share BlockCount)) → AreRight (IsCount rows) (suspect_fails m b suspects) shares → AreCounts (λ i. count_in m on b (suspect_at suspects i).fault) shares
  counts_are suspects shares right =
      All-weaker (λ (s : Share BlockCount). IsCount rows s.part (suspect_fails m b suspects s.suspect)) (λ (s : Share BlockCount). s.part ≡ count_in m on b (suspect_at suspects s.suspect).fault) (λ s is. count_is (suspect_at suspects s.suspect).fault s.part is) shares right

-- the rows of points, over logs
pub side_rows : (t : ScanTest) (logs : List LogFacts) (b : ℕ) (rows : List PointRow) → ArePointRows t logs b rows → AreSideRows (point_model t) (classes_by (class t logs)) b rows
side_rows t logs b rows points = record { len = points.len; each = by_side }
  where
    by_side : (side : Side) (q j : ℕ) → q < length (points_of t) → j < 512 → lane (row_on side (point_row_at rows q)) j ≡ (ltb (pattern_of b j) (length t.patterns) && is_on side (class t logs (bit_of (pattern_of b j) q)))
    by_side Failing q j within lt = (points.each q (omega (arith, within, points.len))).failing j lt
    by_side Passing q j within lt = (points.each q (omega (arith, within, points.len))).passing j lt
