use Rattle.std.proofs.Common.{◌≡◌, ℕ, ◌+◌, ◌-◌, ◌*◌, ◌/◌, ◌<◌, ◌≤◌, List, length, map, sym, ap, subst, ◌∙◌, arith}
use Rattle.std.specs.Prelude.{All, min}
use Rattle.scan_model.specs.ScanTest.{points_of}
use Rattle.scan_model.specs.Coverage.{bit_of}
use Rattle.packed_sim.specs.PackedParts.{AreFails}
use Rattle.report_lines.specs.LineEnds.{AddsLines}
use Rattle.diag_report.specs.PredictedLog.{fail_lines}
use Rattle.diag_report.specs.WordFails.{points_with_fails, bits_from}
use Rattle.diag_report.proofs.FailSteps.{points_inside, row_of_points, one_pattern, patterns_listed}
use Rattle.diag_report.proofs.fails.word_fails.Goals as goal

pub pattern_fails-requires-clause-points : goal.pattern_fails-requires-clause-points
pattern_fails-requires-clause-points c =
    let n = length (points_of c.args.parts.now) in
    subst (λ (ks : List ℕ). All (λ k. k < n) ks) (sym (c.as_slice.ensures ∙ c.in_ok-points.ensures)) (points_inside c.args.fails.now n c.requires.fails)

pub loop-pattern-preserved : goal.loop-pattern-preserved
loop-pattern-preserved c = λ f are.
    let t = c.args.parts.now in
    let fails = c.args.fails.now in
    let word = c.args.word in
    let w = c.loop-pattern.pattern in
    let a = c.args.draft.now in
    let b = c.loop-pattern.draft in
    let d = c.pattern_fails.new.draft in
    let inside : w < length t.patterns = omega (arith, c.loop-pattern-test.true, c.min-end.ensures, ap length c.patterns.ensures.value) in
    let here : AreFails t f (w / 64) fails = subst (λ (v : ℕ). AreFails t f v fails) (omega arith) are in
    let points : c.as_slice.result.now ≡ points_with_fails fails = c.as_slice.ensures ∙ c.in_ok-points.ensures in
    let row : AddsLines (fail_lines t f (bits_from t w 1)) b d =
    subst (λ (ls : List (List ℕ)). AddsLines ls b d) (ap (λ (ks : List ℕ). fail_lines t f (map (bit_of w) ks)) points ∙ row_of_points t f w fails inside c.requires.fails here ∙ sym (one_pattern t f w)) (c.in_ok-pattern_fails.ensures f here) in
    let next : AddsLines (fail_lines t f (bits_from t (64 * word + (w - 64 * word)) 1)) b d = subst (λ (v : ℕ). AddsLines (fail_lines t f (bits_from t v 1)) b d) (omega arith) row in
    subst (λ (m : ℕ). AddsLines (fail_lines t f (bits_from t (64 * word) m)) a d) (omega arith) (patterns_listed t f (64 * word) (w - 64 * word) 1 a b d (c.loop-pattern.invariant f are) next)

pub returns : goal.returns
returns c = λ f are.
    let t = c.args.parts.now in
    let word = c.args.word in
    let high : 64 * word ≤ c.min-end.result = omega (arith, c.min-end.ensures, c.requires.word, ap length c.patterns.ensures.value) in
    let whole : c.loop-pattern.pattern - 64 * word ≡ min 64 (length t.patterns - 64 * word) = omega (arith, high, c.min-end.ensures, ap length c.patterns.ensures.value) in
    subst (λ (m : ℕ). AddsLines (fail_lines t f (bits_from t (64 * word) m)) c.args.draft.now c.loop-pattern.draft) whole (c.loop-pattern.invariant f are)
