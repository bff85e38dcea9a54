use Rattle.std.proofs.Common.{◌≡◌, ℕ, ◌+◌, ◌*◌, ◌<◌, [], ◌++◌, length, get_or, Some, None, sym, ap, subst, ◌∙◌, arith}
use Rattle.scan_model.specs.Response.{response}
use Rattle.fault_universe.specs.BitRows.{row_bits, bits_upto}
use Rattle.scan_model.proofs.ExpectedRows.{expected_row}
use Rattle.fault_universe.proofs.BitSteps.{bits_upto_more}
use Rattle.log_join.proofs.Fitting.{fits_expected}
use Rattle.match_counts.specs.Tally.{counts_over}
use Rattle.match_counts.proofs.BitCounting.{AreAtMost-le}
use Rattle.match_counts.proofs.plain.plain_counts_of.Goals as goal

pub count_row-counts-requires-clause-expected : goal.count_row-counts-requires-clause-expected
count_row-counts-requires-clause-expected c = fits_expected c.args.parts.now c.args.expected.now c.args.joined.now c.requires.expected c.requires.joined

pub loop-pattern-preserved : goal.loop-pattern-preserved
loop-pattern-preserved c =
    let t = c.args.parts.now in
    let w = c.loop-pattern.pattern in
    let good = response t None in
    let bad = response t (Some c.args.fault) in
    let inside : w < length t.patterns = omega (arith, ap length c.patterns.ensures.value) in
    let is_good : good w ≡ get_or c.args.expected.now w [] = rw c.requires.expected (sym (expected_row t w [] inside)) in
    let is_bad : bad w ≡ c.as_slice.result.now = sym (c.as_slice.ensures ∙ c.in_ok-values.ensures) in
    record {
      counts = λ logs stands.
          c.count_row-counts.ensures.counts logs good bad (bits_upto t w) stands is_good is_bad (c.loop-pattern.invariant.counts logs stands)
          ∙ ap (counts_over logs good bad) (ap (λ (n : ℕ). bits_upto t w ++ row_bits w n) c.requires.joined.1 ∙ sym (bits_upto_more t w));
      at_most = AreAtMost-le (w * 131072 + c.args.joined.now.points) ((w + 1) * 131072) c.count_row-counts.result (omega (arith, c.requires.joined.1, c.points-points.ensures.few)) (c.count_row-counts.ensures.at_most (w * 131072) c.loop-pattern.invariant.at_most);
    }

pub returns : goal.returns
returns c = λ logs stands.
    let t = c.args.parts.now in
    let whole : c.loop-pattern.pattern ≡ length t.patterns = omega (arith, ap length c.patterns.ensures.value) in
    subst (λ (n : ℕ). c.loop-pattern.counts ≡ counts_over logs (response t None) (response t (Some c.args.fault)) (bits_upto t n)) whole (c.loop-pattern.invariant.counts logs stands)
