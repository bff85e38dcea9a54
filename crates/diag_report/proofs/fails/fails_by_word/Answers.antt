use Rattle.std.proofs.Common.{◌≡◌, ℕ, ◌+◌, ◌-◌, ◌*◌, ◌<◌, length, ap, subst, arith}
use Rattle.std.specs.Prelude.{min}
use Rattle.fault_universe.specs.BitRows.{bits_upto}
use Rattle.report_lines.specs.LineEnds.{AddsLines}
use Rattle.diag_report.specs.PredictedLog.{fail_lines}
use Rattle.diag_report.specs.WordFails.{bits_from}
use Rattle.diag_report.proofs.FailSteps.{patterns_listed}
use Rattle.diag_report.proofs.fails.fails_by_word.Goals as goal

pub loop-word-preserved : goal.loop-word-preserved
loop-word-preserved g c =
    let t = c.args.parts.now in
    let f = c.args.fault.now in
    let word = c.loop-word.word in
    let n = length t.patterns in
    let a = c.args.draft.now in
    let b = c.loop-word.draft in
    let d = c.word_fails.new.draft in
    let count = min 64 (n - 64 * word) in
    let inside : 64 * word < n = omega (arith, c.loop-word-test.true, ap length c.patterns.ensures.value) in
    let more : AddsLines (fail_lines t f (bits_from t (0 + min n (64 * word)) count)) b d = subst (λ (v : ℕ). AddsLines (fail_lines t f (bits_from t v count)) b d) (omega (arith, inside)) (c.in_ok-word_fails.ensures f c.fails_of.ensures.fails) in
    record {
      room = c.fails_of.ensures.scratch;
      words = omega (arith, c.loop-word.invariant.words);
      so_far = subst (λ (m : ℕ). AddsLines (fail_lines t f (bits_upto t m)) a d) (omega (arith, inside)) (patterns_listed t f 0 (min n (64 * word)) count a b d c.loop-word.invariant.so_far more);
    }

pub returns : goal.returns
returns g c =
    let t = c.args.parts.now in
    let whole : min (length t.patterns) (64 * c.loop-word.word) ≡ length t.patterns = omega (arith, ap length c.patterns.ensures.value) in
    subst (λ (m : ℕ). AddsLines (fail_lines t c.args.fault.now (bits_upto t m)) c.args.draft.now c.loop-word.draft) whole c.loop-word.invariant.so_far
