-- The lines of predicted fails, bit by bit.
use Rattle.std.proofs.Common.{◌≡◌, ◌≢◌, ℕ, zero, suc, ◌+◌, ◌*◌, ◌/◌, ◌%◌, ◌<◌, get_or, take, arith, Bool, true, false, not, ◌&&◌, eqb, ltb, cond, List, [], ◌∷◌, ◌++◌, map, refl, sym, ap, subst, ◌∙◌, inl, inr, append-nil, length}
use Rattle.std.specs.Prelude.{All, filter, codes}
use Rattle.std.specs.Int.{bit_at}
use Rattle.std.specs.List.{range_with_len}
use Rattle.std.proofs.lemmas.Bool.{cases_Bool, lt-ltb, ne_eqb, eq-eqb, eqb-true}
use Rattle.std.proofs.lemmas.List.{map-append, take_more, get_or_default}
use Rattle.std.proofs.lemmas.List.Elements.{filter-append, All-filter}
use Rattle.std.proofs.lemmas.List.FromFn.{length-range_with_len, get_or-range_with_len}
use Rattle.std.proofs.lemmas.Nat.Bits.{bit_at-zero}
use Rattle.scan_model.specs.declared.fault.Fault.{Fault}
use Rattle.scan_model.specs.declared.logs.Bit.{Bit}
use Rattle.scan_model.specs.ScanTest.{ScanTest, points_of}
use Rattle.scan_model.specs.Response.{predicts_fail}
use Rattle.scan_model.specs.Coverage.{bit_of}
use Rattle.scan_model.specs.ReportText.{bit_line}
use Rattle.fault_universe.specs.BitRows.{row_bits}
use Rattle.fault_universe.proofs.BitSteps.{range_more}
use Rattle.packed_sim.specs.PackedParts.{AreFails}
use Rattle.report_lines.specs.declared.draft.Draft.{Draft}
use Rattle.report_lines.specs.LineEnds.{AddsLines}
use Rattle.diag_report.specs.PredictedLog.{fail_lines}
use Rattle.diag_report.specs.WordFails.{has_fails, points_with_fails, bits_from}
use Rattle.report_lines.proofs.LineSteps.{both_added}
use Rattle.diag_report.proofs.TallySteps.{block_append}

fail_lines-append : (t : ScanTest) (f : Fault) (xs ys : List Bit) → fail_lines t f (xs ++ ys) ≡ fail_lines t f xs ++ fail_lines t f ys
fail_lines-append t f xs ys = ap (map (bit_line t (codes "fail"))) (filter-append (predicts_fail t f) xs ys) ∙ map-append (bit_line t (codes "fail")) (filter (predicts_fail t f) xs) (filter (predicts_fail t f) ys)

-- the fails at one more point
point_lines_more : (t : ScanTest) (f : Fault) (w : ℕ) (points : List ℕ) (i d : ℕ) → i < length points
    → fail_lines t f (map (bit_of w) (take (i + 1) points)) ≡ fail_lines t f (map (bit_of w) (take i points)) ++ fail_lines t f (bit_of w (get_or points i d) ∷ [])
point_lines_more t f w points i d lt =
    ap (λ (ks : List ℕ). fail_lines t f (map (bit_of w) ks)) (take_more points i d lt) ∙ ap (fail_lines t f) (map-append (bit_of w) (take i points) (get_or points i d ∷ []))
    ∙ fail_lines-append t f (map (bit_of w) (take i points)) (bit_of w (get_or points i d) ∷ [])

-- the bit of a pattern tells whether a fail is predicted
pub bit_tells : (t : ScanTest) (f : Fault) (w k : ℕ) (fails : List ℕ) (d : ℕ) → k < length (points_of t) → w < length t.patterns → length fails ≡ length (points_of t) → AreFails t f (w / 64) fails
    → eqb (bit_at (get_or fails k d) (w % 64)) 1 ≡ predicts_fail t f (bit_of w k)
bit_tells t f w k fails d k_lt w_lt len are =
    let whole : 64 * (w / 64) + w % 64 ≡ w = omega arith in
    let there : ltb w (length t.patterns) ≡ true = lt-ltb w (length t.patterns) w_lt in
    ap (λ (n : ℕ). eqb (bit_at n (w % 64)) 1) (get_or_default fails k d 0 (omega (arith, len))) ∙ are k (w % 64) k_lt (omega arith)
    ∙ ap (λ (v : ℕ). ltb v (length t.patterns) && predicts_fail t f (bit_of v k)) whole ∙ ap (λ (b : Bool). b && predicts_fail t f (bit_of w k)) there

-- one more point, whose bit is listed
pub bit_listed : (t : ScanTest) (f : Fault) (w : ℕ) (points : List ℕ) (i d : ℕ) (a b c : Draft) → i < length points → predicts_fail t f (bit_of w (get_or points i d)) ≡ true
    → AddsLines (fail_lines t f (map (bit_of w) (take i points))) a b → AddsLines (bit_line t (codes "fail") (bit_of w (get_or points i d)) ∷ []) b c → AddsLines (fail_lines t f (map (bit_of w) (take (i + 1) points))) a c
bit_listed t f w points i d a b c lt predicted first then =
    let k : ℕ = get_or points i d in
    let before = fail_lines t f (map (bit_of w) (take i points)) in
    let one : fail_lines t f (bit_of w k ∷ []) ≡ bit_line t (codes "fail") (bit_of w k) ∷ [] = ap (λ (p : Bool). map (bit_line t (codes "fail")) (cond p (bit_of w k ∷ []) [])) predicted in
    subst (λ (ls : List (List ℕ)). AddsLines ls a c) (sym (point_lines_more t f w points i d lt ∙ ap (λ (ls : List (List ℕ)). before ++ ls) one))
    (both_added before (bit_line t (codes "fail") (bit_of w k) ∷ []) a b c first then)

-- one more point, whose bit is left out
pub bit_skipped : (t : ScanTest) (f : Fault) (w : ℕ) (points : List ℕ) (i d : ℕ) (a b : Draft) → i < length points → predicts_fail t f (bit_of w (get_or points i d)) ≡ false
    → AddsLines (fail_lines t f (map (bit_of w) (take i points))) a b → AddsLines (fail_lines t f (map (bit_of w) (take (i + 1) points))) a b
bit_skipped t f w points i d a b lt passes first =
    let k : ℕ = get_or points i d in
    let before = fail_lines t f (map (bit_of w) (take i points)) in
    let none : fail_lines t f (bit_of w k ∷ []) ≡ [] = ap (λ (p : Bool). map (bit_line t (codes "fail")) (cond p (bit_of w k ∷ []) [])) passes in
    subst (λ (ls : List (List ℕ)). AddsLines ls a b) (sym (point_lines_more t f w points i d lt ∙ ap (λ (ls : List (List ℕ)). before ++ ls) none ∙ append-nil before)) first

-- ---- points without a fail

kept_map : (q : Bit → Bool) (p : ℕ → Bool) (w a n : ℕ) → ((k : ℕ) → k < a + n → p k ≡ false → q (bit_of w k) ≡ false)
    → filter q (map (bit_of w) (filter p (range_with_len a n))) ≡ filter q (map (bit_of w) (range_with_len a n))
kept_map q p w a zero none = refl
kept_map q p w a (suc n) none = elim (cases_Bool (p a)) [
  | inl e ↦ rw e (ap (λ (bs : List Bit). cond (q (bit_of w a)) (bit_of w a ∷ bs) bs) (kept_map q p w (a + 1) n (λ k lt. none k (omega arith))))
  | inr e ↦ rw (e, none a (omega arith) e) (kept_map q p w (a + 1) n (λ k lt. none k (omega arith)))
]

not_false : (b : Bool) → not b ≡ false → b ≡ true
not_false true e = refl
not_false false e = absurd cc

no_bit : (n i : ℕ) → not (eqb n 0) ≡ false → eqb (bit_at n i) 1 ≡ false
no_bit n i e =
    let none : n ≡ 0 = eqb-true n 0 (not_false (eqb n 0) e) in
    ap (λ (m : ℕ). eqb (bit_at m i) 1) none ∙ ap (λ (m : ℕ). eqb m 1) (bit_at-zero i)

-- where a point has no bit set, no fail is predicted
none_at : (t : ScanTest) (f : Fault) (w : ℕ) (fails : List ℕ) → w < length t.patterns → length fails ≡ length (points_of t) → AreFails t f (w / 64) fails
    → (k : ℕ) → k < 0 + length fails → has_fails fails k ≡ false → predicts_fail t f (bit_of w k) ≡ false
none_at t f w fails w_lt len are k lt none = sym (bit_tells t f w k fails 0 (omega (arith, len)) w_lt len are) ∙ no_bit (get_or fails k 0) (w % 64) none

-- the fails at the points that fail somewhere in the word are all
pub row_of_points : (t : ScanTest) (f : Fault) (w : ℕ) (fails : List ℕ) → w < length t.patterns → length fails ≡ length (points_of t) → AreFails t f (w / 64) fails
    → fail_lines t f (map (bit_of w) (points_with_fails fails)) ≡ fail_lines t f (row_bits w (length (points_of t)))
row_of_points t f w fails w_lt len are =
    ap (map (bit_line t (codes "fail"))) (kept_map (predicts_fail t f) (has_fails fails) w 0 (length fails) (none_at t f w fails w_lt len are))
    ∙ ap (λ (n : ℕ). fail_lines t f (row_bits w n)) len

-- points of a word are points
pub points_inside : (fails : List ℕ) (n : ℕ) → length fails ≡ n → All (λ k. k < n) (points_with_fails fails)
points_inside fails n len = All-filter (has_fails fails) (λ k. k < n) (range_with_len 0 (length fails)) (λ k d lt.
    let inside : k < length fails = omega (arith, length-range_with_len 0 (length fails)) in
    subst (λ (m : ℕ). m < n) (sym (get_or-range_with_len 0 (length fails) k d inside)) (omega (arith, len)))

-- one more point of a word
points_more : (fails : List ℕ) (k : ℕ) → filter (has_fails fails) (range_with_len 0 (k + 1)) ≡ filter (has_fails fails) (range_with_len 0 k) ++ cond (has_fails fails k) (k ∷ []) []
points_more fails k = ap (filter (has_fails fails)) (range_more k) ∙ filter-append (has_fails fails) (range_with_len 0 k) (k ∷ [])

-- a point of a word, which fails somewhere
pub point_kept : (fails : List ℕ) (k d : ℕ) (points next : List ℕ) → k < length fails → get_or fails k d ≢ 0 → points ≡ filter (has_fails fails) (range_with_len 0 k) → next ≡ points ++ k ∷ []
    → next ≡ filter (has_fails fails) (range_with_len 0 (k + 1))
point_kept fails k d points next lt there so_far pushed =
    let has : has_fails fails k ≡ true = ap not (ne_eqb (get_or fails k 0) 0 (λ e. there (get_or_default fails k d 0 lt ∙ e))) in
    pushed ∙ ap (λ (ks : List ℕ). ks ++ k ∷ []) so_far ∙ sym (points_more fails k ∙ ap (λ (b : Bool). filter (has_fails fails) (range_with_len 0 k) ++ cond b (k ∷ []) []) has)

-- a point of a word, which doesn't
pub point_left : (fails : List ℕ) (k d : ℕ) (points : List ℕ) → k < length fails → get_or fails k d ≡ 0 → points ≡ filter (has_fails fails) (range_with_len 0 k) → points ≡ filter (has_fails fails) (range_with_len 0 (k + 1))
point_left fails k d points lt none so_far =
    let before = filter (has_fails fails) (range_with_len 0 k) in
    let has : has_fails fails k ≡ false = ap not (eq-eqb (get_or fails k 0) 0 (sym (get_or_default fails k d 0 lt) ∙ none)) in
    so_far ∙ sym (points_more fails k ∙ ap (λ (b : Bool). before ++ cond b (k ∷ []) []) has ∙ append-nil before)

-- ---- patterns

-- more patterns
pub patterns_listed : (t : ScanTest) (f : Fault) (first m n : ℕ) (a b c : Draft) → AddsLines (fail_lines t f (bits_from t first m)) a b → AddsLines (fail_lines t f (bits_from t (first + m) n)) b c → AddsLines (fail_lines t f (bits_from t first (m + n))) a c
patterns_listed t f first m n a b c before then =
    subst (λ (ls : List (List ℕ)). AddsLines ls a c) (sym (ap (fail_lines t f) (block_append (length (points_of t)) first m n) ∙ fail_lines-append t f (bits_from t first m) (bits_from t (first + m) n)))
    (both_added (fail_lines t f (bits_from t first m)) (fail_lines t f (bits_from t (first + m) n)) a b c before then)

-- one pattern
pub one_pattern : (t : ScanTest) (f : Fault) (w : ℕ) → fail_lines t f (bits_from t w 1) ≡ fail_lines t f (row_bits w (length (points_of t)))
one_pattern t f w = ap (fail_lines t f) (append-nil (row_bits w (length (points_of t))))
