use Rattle.std.proofs.Common.{◌≡◌, length, sym, ap, subst, ◌∙◌, arith, below_more}
use Rattle.std.proofs.lemmas.Bool.{and_from, and_parts}
use Rattle.scan_model.specs.ScanTest.{points_of}
use Rattle.lane_rows.specs.Lanes.{lane}
use Rattle.chain_compactor.specs.TracedBits.{AddsUpstreamBits}
use Rattle.chain_compactor.proofs.tracing.push_block.Goals as goal

pub failing_downstream-failing-requires-clause-point : goal.failing_downstream-failing-requires-clause-point
failing_downstream-failing-requires-clause-point c = omega (arith, c.loop-point-test.true, ap length c.points.ensures.value)

pub loop-point-init : goal.loop-point-init
loop-point-init c = record {
  kept = λ x has. has;
  lanes = λ k lt. absurd (omega (arith, lt));
  within = λ patterns inside are. are;
}

pub loop-point-preserved : goal.loop-point-preserved
loop-point-preserved c =
    let inv = c.loop-point.invariant in
    let added = c.in_ok-push_lanes.ensures in
    let failing = c.failing_downstream-failing in
    record {
      kept = λ x has. added.kept x (inv.kept x has);
      lanes = below_more _ _ (λ i h q j lt sees fails here. added.kept _ (inv.lanes i h q j lt sees fails here))
          (λ q j lt sees fails here. added.listed j lt (c.and.ensures j lt ∙ and_from (lane failing.result j) (lane c.args.there j) (failing.ensures q j lt sees fails) here));
      within = λ patterns inside are. added.within patterns (length (points_of c.args.parts.now)) (omega (arith, c.loop-point-test.true, ap length c.points.ensures.value))
          (λ j lt is. inside j lt (and_parts (lane failing.result j) (lane c.args.there j) (sym (c.and.ensures j lt) ∙ is)).1) (inv.within patterns inside are);
    }

pub returns : goal.returns
returns c =
    let t = c.args.parts.now in
    let whole : c.loop-point.point ≡ length (points_of t) = omega (arith, c.loop-point-test.false, c.loop-point.auto.point-end, ap length c.points.ensures.value) in
    subst (λ n. AddsUpstreamBits t c.args.compact.now c.args.rows.now c.args.block c.args.there n c.args.bits.now c.loop-point.bits) whole c.loop-point.invariant
