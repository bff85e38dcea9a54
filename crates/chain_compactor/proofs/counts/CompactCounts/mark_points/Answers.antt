use Rattle.std.proofs.Common.{ℕ, subst, ◌∙◌, arith, below_more}
use Rattle.std.specs.Prelude.{Contains}
use Rattle.std.proofs.lemmas.List.{get_or_default}
use Rattle.scan_model.specs.ScanTest.{point_at}
use Rattle.chain_compactor.specs.ObservationPoints.{seeing}
use Rattle.chain_compactor.proofs.counts.CompactCounts.mark_points.Goals as goal

pub loop-point-preserved : goal.loop-point-preserved
loop-point-preserved c =
    let inv = c.loop-point.invariant in
    record {
      rooms = c.mark_point.ensures.room ∙ inv.rooms;
      places = λ h q has. c.mark_point.ensures.places (inv.places h) q has;
      kept = λ q has. c.mark_point.ensures.kept q (inv.kept q has);
      marked = below_more _ _ (λ i h q sees. c.mark_point.ensures.kept q (inv.marked i h q sees)) c.mark_point.ensures.seeing;
    }

pub returns-clause-seeing : goal.returns-clause-seeing
returns-clause-seeing c = λ k d lt q sees.
    let t = c.args.self.now.parts.now in
    let points = c.args.points.now in
    c.loop-point.invariant.marked k (omega (arith, lt, c.loop-point-test.false)) q
    (subst (λ (m : ℕ). Contains (seeing t c.args.self.now.compact.now (point_at t m)) q) (get_or_default points k d 0 lt) sees)
