-- A fault that fits a pattern can explain the first and the last Failing bit of it.
use Rattle.std.proofs.Common.{◌≡◌, ℕ, ◌+◌, ◌*◌, ◌-◌, ◌<◌, Bool, true, false, not, ltb, ◌&&◌, ◌||◌, List, length, refl, sym, ap, ◌∙◌, inl, inr, arith}
use Rattle.std.specs.Prelude.{Contains}
use Rattle.std.specs.List.{list_any, range_with_len}
use Rattle.std.proofs.lemmas.Bool.{cases_lt, both_ways, and_parts, and_from, lt-ltb, ltb-true}
use Rattle.std.proofs.lemmas.List.{get_or_default}
use Rattle.scan_model.specs.declared.fault.Fault.{Fault}
use Rattle.scan_model.specs.declared.logs.LogFacts.{LogFacts}
use Rattle.scan_model.specs.Classes.{class, is_failing, is_passing}
use Rattle.scan_model.specs.Coverage.{bit_of}
use Rattle.scan_model.specs.Response.{predicts_fail}
use Rattle.scan_model.specs.ReportText.{no_fault}
use Rattle.scan_model.specs.ScanTest.{ScanTest, IsScanTest, pattern_at, points_of, point_at}
use Rattle.scan_model.specs.Suspect.{can_explain}
use Rattle.scan_model.specs.Universe.{universe}
use Rattle.scan_model.specs.Walks.{IsEvaluationOrder}
use Rattle.scan_model.proofs.counting.Suspects.{predicted_explained}
use Rattle.lane_rows.specs.GoodRows.{pattern_of}
use Rattle.log_rows.specs.declared.point_row.PointRow.{PointRow}
use Rattle.log_rows.specs.PointRows.{ArePointRows}
use Rattle.back_trace.specs.CommonPatterns.{AreBothMarked}
use Rattle.explained_lanes.specs.Fails.{fails_at, explains_in, IsWithin}
use Rattle.explained_lanes.proofs.Ranges.{any_at}
use Rattle.diag_report.specs.PredictedLog.{fault_of}
use Rattle.slat_view.specs.Ends.{is_failing_at, any_before, any_from, AreFirsts, AreLasts}
use Rattle.slat_view.specs.FitMarks.{HaveFitsUpTo, AreFitsMarked}
use Rattle.slat_view.specs.Slat.{pattern_bits, is_failing_pattern, is_against, fits}
use Rattle.slat_view.specs.Trials.{any_failing}
use Rattle.slat_view.proofs.Disagreeing.{none_found}
use Rattle.slat_view.proofs.FirstLast.{first_failing_there, last_failing_there}
use Rattle.slat_view.proofs.Ranges.{any_map}
use Rattle.slat_view.proofs.Trying.{failing_lane}

not_true : (b : Bool) → not b ≡ true → b ≡ false
not_true true e = absurd cc
not_true false e = refl

agrees : (failing passing predicted : Bool) → ((failing && not predicted) || (passing && predicted)) ≡ false → failing ≡ true → predicted ≡ true
agrees true passing true none fails = refl
agrees true passing false none fails = absurd cc
agrees false passing predicted none fails = absurd cc

module _ (t : ScanTest) (logs : List LogFacts) (b : ℕ) (rows : List PointRow) (are : ArePointRows t logs b rows) where
  -- a Failing lane is that of a pattern, in which the bit is Failing
  failing_bit : (j k : ℕ) → j < 512 → k < length (points_of t) → is_failing_at rows j k ≡ true → (pattern_of b j < length t.patterns) × (is_failing (class t logs (bit_of (pattern_of b j) k)) ≡ true)
  failing_bit j k lj lk e =
      let both = and_parts (ltb (pattern_of b j) (length t.patterns)) (is_failing (class t logs (bit_of (pattern_of b j) k))) (sym ((are.each k (omega (arith, lk, are.len))).failing j lj) ∙ e) in
      (ltb-true (pattern_of b j) (length t.patterns) both.0, both.1)

  -- rows of Failing bits have no lane past the last pattern
  module _ (ends : List (List ℕ)) (len : length ends ≡ length rows) where
    pub failing_within : ((j k : ℕ) → j < 512 → k < length rows → fails_at ends j k ≡ true → is_failing_at rows j k ≡ true) → IsWithin t b ends
    failing_within are_failing = record {
      len = len ∙ are.len;
      pattern = λ j k lj lk e. (failing_bit j k lj lk (are_failing j k lj (omega (arith, lk, are.len)) e)).0;
    }

  pub firsts_within : (firsts : List (List ℕ)) → length firsts ≡ length rows → AreFirsts rows firsts → IsWithin t b firsts
  firsts_within firsts len are_firsts = failing_within firsts len (λ j k lj lk e. (and_parts (is_failing_at rows j k) (not (any_before rows j k)) (sym (are_firsts j k lj lk) ∙ e)).0)

  pub lasts_within : (lasts : List (List ℕ)) → length lasts ≡ length rows → AreLasts rows lasts → IsWithin t b lasts
  lasts_within lasts len are_lasts = failing_within lasts len (λ j k lj lk e. (and_parts (is_failing_at rows j k) (not (any_from rows j (k + 1))) (sym (are_lasts j k lj lk) ∙ e)).0)

  -- a fault that fits the pattern of a lane
  module _ (sound : IsScanTest t) (order : List ℕ) (ordered : IsEvaluationOrder t.netlist order) (f : Fault) (listed : Contains (universe t) f) (j : ℕ) (lj : j < 512) (there : pattern_of b j < length t.patterns) (fitting : fits t logs (pattern_of b j) f ≡ true) where
    abbrev w : ℕ
    w = pattern_of b j

    parts : (is_failing_pattern t logs w ≡ true) × (not (list_any (is_against t logs f) (pattern_bits t w)) ≡ true)
    parts = and_parts (is_failing_pattern t logs w) (not (list_any (is_against t logs f) (pattern_bits t w))) fitting

    pub failing_here : any_failing rows j ≡ true
    failing_here = failing_lane t logs b rows are j lj ∙ and_from (ltb w (length t.patterns)) (is_failing_pattern t logs w) (lt-ltb w (length t.patterns) there) parts.0

    predicted : (k : ℕ) → k < length (points_of t) → is_failing (class t logs (bit_of w k)) ≡ true → predicts_fail t f (bit_of w k) ≡ true
    predicted k lk failing =
        let none : list_any (λ q. is_against t logs f (bit_of w q)) (range_with_len 0 (length (points_of t))) ≡ false = sym (any_map (is_against t logs f) (bit_of w) (range_with_len 0 (length (points_of t)))) ∙ not_true (list_any (is_against t logs f) (pattern_bits t w)) parts.1 in
        agrees (is_failing (class t logs (bit_of w k))) (is_passing (class t logs (bit_of w k))) (predicts_fail t f (bit_of w k)) (none_found (λ q. is_against t logs f (bit_of w q)) 0 (length (points_of t)) none k (omega arith) (omega (arith, lk))) failing

    explained : (ends : List (List ℕ)) (k : ℕ) → k < length rows → is_failing_at rows j k ≡ true → fails_at ends j k ≡ true → explains_in t f b ends j ≡ true
    explained ends k lk failing shown =
        let within : k < length (points_of t) = omega (arith, lk, are.len) in
        let explains : can_explain t f (pattern_at t w).kind w (point_at t k) ≡ true = predicted_explained t sound order ordered f w k listed there within (predicted k within (failing_bit j k lj within failing).1) in
        any_at (λ m. fails_at ends j m && can_explain t f (pattern_at t w).kind w (point_at t m)) (length (points_of t)) k within (and_from (fails_at ends j k) (can_explain t f (pattern_at t w).kind w (point_at t k)) shown explains)

    pub explains_first : (firsts : List (List ℕ)) → AreFirsts rows firsts → explains_in t f b firsts j ≡ true
    explains_first firsts are_firsts =
        let r = first_failing_there rows j failing_here in
        explained firsts r.0 r.1 r.2 (are_firsts j r.0 lj r.1 ∙ r.3)

    pub explains_last : (lasts : List (List ℕ)) → AreLasts rows lasts → explains_in t f b lasts j ≡ true
    explains_last lasts are_lasts =
        let r = last_failing_there rows j failing_here in
        explained lasts r.0 r.1 r.2 (are_lasts j r.0 lj r.1 ∙ r.3)

  module _ (sound : IsScanTest t) (order : List ℕ) (ordered : IsEvaluationOrder t.netlist order) where
    -- the fault at a place is one of the list
    listed_at : (p : ℕ) → p < length (universe t) → Contains (universe t) (fault_of t p)
    listed_at p lp = (p, lp, get_or_default (universe t) p (fault_of t p) no_fault lp)

    pub marked_here : (firsts lasts : List (List ℕ)) (old new : List Bool) → AreFirsts rows firsts → AreLasts rows lasts → AreBothMarked t b firsts lasts (length (universe t)) old new → AreFitsMarked t logs b old new
    marked_here firsts lasts old new are_firsts are_lasts marked = record {
      kept = marked.kept;
      fits = λ p j lp lj there fitting. marked.all p j lp lj (and_from (explains_in t (fault_of t p) b firsts j) (explains_in t (fault_of t p) b lasts j)
          (explains_first sound order ordered (fault_of t p) (listed_at p lp) j lj there fitting firsts are_firsts)
          (explains_last sound order ordered (fault_of t p) (listed_at p lp) j lj there fitting lasts are_lasts));
    }

    -- where no point is Failing nothing fits
    pub none_marked : (marks : List Bool) → ((j : ℕ) → j < 512 → any_failing rows j ≡ false) → AreFitsMarked t logs b marks marks
    none_marked marks none = record {
      kept = λ p e. e;
      fits = λ p j lp lj there fitting. absurd (both_ways (any_failing rows j) (none j lj) (failing_here sound order ordered (fault_of t p) (listed_at p lp) j lj there fitting));
    }

-- block by block
pub fits_none : (t : ScanTest) (logs : List LogFacts) (marks : List Bool) → HaveFitsUpTo t logs 0 marks
fits_none t logs marks p w lp lw there fitting = absurd (omega arith)

pub fits_more : (t : ScanTest) (logs : List LogFacts) (b : ℕ) (old new : List Bool) → HaveFitsUpTo t logs (512 * b) old → AreFitsMarked t logs b old new → HaveFitsUpTo t logs (512 * (b + 1)) new
fits_more t logs b old new so_far marked p w lp lw there fitting = elim (cases_lt w (512 * b)) [
  | inl before ↦ marked.kept p (so_far p w lp before there fitting)
  | inr here ↦
      let j = w - 512 * b in
      let is : pattern_of b j ≡ w = omega (arith, here) in
      marked.fits p j lp (omega (arith, lw)) (omega (arith, is, there)) (ap (λ (v : ℕ). fits t logs v (fault_of t p)) is ∙ fitting)
]
