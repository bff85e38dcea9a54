use Rattle.std.proofs.Common.{◌≡◌, ℕ, ◌+◌, ◌-◌, ◌*◌, ◌/◌, ◌%◌, ◌^◌, ◌<◌, ◌≤◌, cond, Bool, true, false, List, length, sym, ap, subst, ◌∙◌, arith}
use Rattle.lane_rows.specs.Lanes.{lane}
use Rattle.slat_view.specs.Slat.{is_failing_pattern, fitting_places}
use Rattle.slat_view.specs.Tests.{fitting_among, IsSlatUpTo}
use Rattle.pattern_fits.specs.FitPlaces.{places_in}
use Rattle.slat_view.proofs.Counting.{pattern_more, one_most, few_fit}
use Rattle.slat_view.proofs.counts.add_block.Goals as goal

pub loop-pattern-preserved : goal.loop-pattern-preserved
loop-pattern-preserved c = record {
  few = omega (arith, c.loop-pattern.invariant.few, c.in_ok-add_pattern.ensures.failing, one_most c.has-fails.result);
  counted = λ logs places inside all tried before.
      let t = c.args.parts.now in
      let w = c.loop-pattern.pattern in
      let j = w % 512 in
      let here : 512 * c.args.block + j ≡ w = omega (arith, c.loop-pattern-test.true, c.requires.end) in
      let there : 512 * c.args.block + j < length t.patterns = omega (arith, here, inside, c.loop-pattern-test.true) in
      let lt : j < 512 = omega arith in
      let fails = c.has-fails.ensures ∙ tried.failing j lt there ∙ ap (is_failing_pattern t logs) here in
      let count : c.count_with-count.result ≡ length (fitting_places t logs w) =
      c.count_with-count.ensures ∙ ap length (rw c.as_slice.ensures (tried.fits j lt there) ∙ ap (λ (v : ℕ). fitting_among t logs v places) here ∙ all w (omega (arith, here, there))) in
      pattern_more t logs w c.loop-pattern.slat c.add_pattern.new.slat c.has-fails.result _ (c.loop-pattern.invariant.counted logs places inside all tried before) fails (omega (arith, c.min-faults.ensures, count, few_fit t logs w, c.universe_len-most.ensures)) c.in_ok-add_pattern.ensures.failing c.in_ok-add_pattern.ensures.rows;
}

pub returns-clause-few : goal.returns-clause-few
returns-clause-few c = omega (arith, c.loop-pattern.invariant.few, c.loop-pattern-test.false, c.loop-pattern.auto.pattern-end, c.requires.failing, c.requires.start)

pub returns-clause-counted : goal.returns-clause-counted
returns-clause-counted c = λ logs places inside all tried before.
    let end : c.loop-pattern.pattern ≡ c.args.end = omega (arith, c.loop-pattern-test.false, c.loop-pattern.auto.pattern-end, c.requires.start) in
    subst (λ (n : ℕ). IsSlatUpTo c.args.parts.now logs n c.loop-pattern.slat) end (c.loop-pattern.invariant.counted logs places inside all tried before)
