use Rattle.std.proofs.Common.{◌≡◌, ℕ, ◌+◌, ◌*◌, ◌^◌, ◌<◌, ◌++◌, subst, ap, ◌∙◌, arith}
use Rattle.std.specs.Prelude.{min}
use Rattle.scan_model.specs.Classes.{class_with}
use Rattle.diag_report.specs.BitTally.{tally_over, block_bits, word_block}
use Rattle.diag_report.proofs.TallySteps.{word_more, tally_more, IsTallyOf-counted}
use Rattle.diag_report.proofs.tally.tally_bits.Goals as goal

pub loop-word-preserved : goal.loop-word-preserved
loop-word-preserved c =
    let word = c.loop-word.word in
    let joined = c.args.joined.now in
    let n = joined.patterns in
    let points = c.points-points.result in
    let inv = c.loop-word.invariant in
    let inside : 64 * word < n = omega (arith, c.loop-word-test.true, c.patterns-patterns.ensures) in
    let same : points ≡ joined.points = c.points-points.ensures in
    record {
      classes = λ logs stands.
          let classes = class_with c.args.expected.now logs in
          let before = block_bits 0 (min n (64 * word)) joined.points in
          tally_more classes before (word_block n word points) c.count_side-failing.result c.count_side-passing.result c.loop-word.tally c.list_word.new.tally (inv.classes logs stands)
          (c.count_side-failing.ensures.count logs stands) (c.count_side-passing.ensures.count logs stands) (c.in_ok-list_word.ensures.listed logs stands)
          ∙ ap (tally_over classes) (ap (λ (k : ℕ). before ++ word_block n word k) same ∙ word_more joined.points n word inside);
      tally = c.in_ok-list_word.ensures.tally ((word + 1) * 64 * 2 ^ 32)
          (IsTallyOf-counted joined.points (word * 64 * 2 ^ 32) ((word + 1) * 64 * 2 ^ 32) c.count_side-failing.result c.count_side-passing.result c.loop-word.tally (omega (arith, same)) (omega (arith, same, c.count_side-failing.ensures.few)) (omega (arith, same, c.count_side-passing.ensures.few)) inv.tally);
    }

pub returns-clause-classes : goal.returns-clause-classes
returns-clause-classes c = λ logs stands.
    let joined = c.args.joined.now in
    let whole : min joined.patterns (64 * c.loop-word.word) ≡ joined.patterns = omega (arith, c.patterns-patterns.ensures) in
    subst (λ (n : ℕ). c.loop-word.tally ≡ tally_over (class_with c.args.expected.now logs) (block_bits 0 n joined.points)) whole (c.loop-word.invariant.classes logs stands)
