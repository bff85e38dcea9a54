use Rattle.std.proofs.Common.{◌≡◌, get_or, ap, ◌∙◌, inl, inr, arith}
use Rattle.std.proofs.lemmas.Bool.{cases_lt}
use Rattle.std.proofs.lemmas.List.{get_or_default}
use Rattle.bridge_pairs.specs.Ranks.{start_of, target_of}
use Rattle.bridge_pairs.proofs.Ranking.{higher_is, rank_fits}
use Rattle.bridge_pairs.proofs.ranks.window.Goals as goal

pub loop-pair-preserved : goal.loop-pair-preserved
loop-pair-preserved c =
    let ranks = c.args.ranked.now.ranks.now in
    let batch = c.args.batch.now in
    let at = c.loop-pair.pair-index in
    let high = higher_is c.loop-pair.high (get_or ranks c.in_order-start.result.1 0) c.max-high.result c.max-high.ensures in
    record {
      low = λ k d lt. elim (cases_lt k at) [
        | inl before ↦ omega (arith, c.loop-pair.invariant.low k d before)
        | inr past ↦
            let same : at ≡ k = omega arith in
            let pair = get_or_default batch at _ d c.loop-pair-test.true ∙ ap (λ i. get_or batch i d) same in
            let rank : get_or ranks c.in_order-start.result.0 0 ≡ get_or ranks (start_of ranks (get_or batch k d)) 0 = ap (λ r. get_or ranks r.0 0) c.in_order-start.ensures ∙ ap (λ p. get_or ranks (start_of ranks p) 0) pair in
            omega arith
      ];
      high = λ k d lt. elim (cases_lt k at) [
        | inl before ↦ omega (arith, c.loop-pair.invariant.high k d before)
        | inr past ↦
            let same : at ≡ k = omega arith in
            let pair = get_or_default batch at _ d c.loop-pair-test.true ∙ ap (λ i. get_or batch i d) same in
            let rank : get_or ranks c.in_order-start.result.1 0 ≡ get_or ranks (target_of ranks (get_or batch k d)) 0 = ap (λ r. get_or ranks r.1 0) c.in_order-start.ensures ∙ ap (λ p. get_or ranks (target_of ranks p) 0) pair in
            omega arith
      ];
      end = omega (arith, rank_fits c.args.ranked.now.circuit.now c.args.ranked.now.order.now ranks c.requires.ranked c.in_order-start.result.1);
    }
