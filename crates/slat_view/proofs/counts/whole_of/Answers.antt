use Rattle.std.proofs.Common.{◌≡◌, ◌∙◌, ℕ, ◌+◌, ◌-◌, ◌*◌, ◌^◌, ◌<◌, ◌≤◌, List, length, Option, Some, None, sym, ap, subst, arith, rules}
use Rattle.std.specs.Prelude.{min, IfSome, OnSome}
use Rattle.pattern_fits.specs.declared.fit.Fit.{Fit}
use Rattle.fault_effects.specs.Owners.{places_of}
use Rattle.slat_view.specs.Tests.{IsSlatUpTo, IsBlockOf, HaveAllFits}
use Rattle.slat_view.specs.WholeCounts.{HavePlacesUpTo, fits_in}
use Rattle.slat_view.proofs.KeptFits.{one_more, both_kept, many_more, few_more, places_more}
use Rattle.slat_view.proofs.counts.whole_of.Goals as goal

pub loop-block-preserved : goal.loop-block-preserved
loop-block-preserved g c =
    let t = c.args.trials.now.parts.now in
    let k = c.loop-block.block in
    let n = length t.patterns in
    let old = c.loop-block.blocks in
    let new = c.with_block-blocks.result in
    let tried = c.in_ok-tried.tried in
    let behind = c.with_block-blocks.ensures.behind in
    let places = places_of c.args.trials.now.die.now.suspects in
    let many : c.len-patterns.result ≡ n = c.len-patterns.ensures ∙ ap length c.patterns.ensures.value in
    let start : min (512 * k) n ≡ 512 * k = omega (arith, many, c.loop-block-test.true, c.div_ceil-block-end.ensures, c.loop-block.auto.block-end) in
    let end : c.min-end.result ≡ min (512 * (k + 1)) n = omega (arith, many, c.min-end.ensures) in
    record {
      few = omega (arith, c.in_ok-add_block.ensures.few, end);
      counted = λ logs stands all.
          subst (λ (m : ℕ). IsSlatUpTo t logs m c.add_block.new.slat) end
          (c.in_ok-add_block.ensures.counted logs places (omega (arith, end)) all (c.in_ok-tried.ensures logs stands)
          (subst (λ (m : ℕ). IsSlatUpTo t logs m c.loop-block.slat) start (c.loop-block.invariant.counted logs stands all)));
      many = one_more (λ (bs : List (List Fit)). length bs ≡ k) (λ (bs : List (List Fit)). length bs ≡ k + 1) tried.fits old new behind c.loop-block.invariant.many (λ before many. many_more k before tried.fits many);
      kept = few_more tried.fits c.loop-block.count c.saturating_add-count.result 262144 (2 ^ 64 - 1) old new behind c.with_block-blocks.ensures.few (c.saturating_add-count.ensures ∙ ap (λ (m : ℕ). min (c.loop-block.count + m) (2 ^ 64 - 1)) c.len.ensures) (omega arith) c.loop-block.invariant.kept;
      placed = λ logs stands all.
          one_more (λ (bs : List (List Fit)). (length bs ≡ k) × HavePlacesUpTo t logs (min (512 * k) n) bs) (HavePlacesUpTo t logs (min (512 * (k + 1)) n)) tried.fits old new behind
          (both_kept (λ (bs : List (List Fit)). length bs ≡ k) (HavePlacesUpTo t logs (min (512 * k) n)) old c.loop-block.invariant.many (c.loop-block.invariant.placed logs stands all))
          (λ before so_far. places_more t logs k before tried places so_far.0 all (c.in_ok-tried.ensures logs stands) so_far.1);
    }
