use Rattle.std.proofs.Common.{◌≡◌, ℕ, eqb, true, length, get_or, sym, ap, subst, ◌∙◌, arith, below_more}
use Rattle.std.specs.Prelude.{All, Contains}
use Rattle.std.proofs.lemmas.List.{get_or_default}
use Rattle.scan_model.specs.declared.parts.Point.{Point}
use Rattle.scan_model.specs.ScanTest.{IsPoint, points_of, point_at}
use Rattle.scan_model.specs.Suspect.{observed_net}
use Rattle.place_sets.specs.Places.{has_place}
use Rattle.packed_sim.specs.PackedParts.{observed_at, points_of_net}
use Rattle.packed_sim.proofs.Changes.{point_stands}
use Rattle.fault_effects.proofs.NetPoints.{filtered, of_net_points}
use Rattle.chain_compactor.specs.ObservationPoints.{seeing}
use Rattle.chain_compactor.proofs.Members.{members_are_points}
use Rattle.chain_compactor.proofs.SeenPoints.{seen}
use Rattle.chain_compactor.proofs.counts.CompactCounts.due_places.Goals as goal

pub mark_points-requires-clause-points : goal.mark_points-requires-clause-points
mark_points-requires-clause-points c =
    let t = c.args.self.now.parts.now in
    let net = get_or c.args.nets.now c.loop-net.net-index 0 in
    rw c.points_of_net-points.ensures (λ k d lt. omega (arith, (filtered (λ x. eqb (observed_at t x) net) 0 (length (points_of t)) k d lt).0))

pub loop-net-preserved : goal.loop-net-preserved
loop-net-preserved c =
    let inv = c.loop-net.invariant in
    let t = c.args.self.now.parts.now in
    let net = get_or c.args.nets.now c.loop-net.net-index 0 in
    let Marked : ℕ → Type 0 = λ k. (q : ℕ) → Contains (seeing t c.args.self.now.compact.now (point_at t k)) q → has_place c.mark_points.new.due q ≡ true in
    let all : All Marked (points_of_net t net) = subst (All Marked) c.points_of_net-points.ensures c.mark_points.ensures.seeing in
    record {
      rooms = omega (arith, c.mark_points.ensures.room, inv.rooms);
      places = c.mark_points.ensures.places inv.places;
      marked = below_more _ _ (λ i h k lt at q sees. c.mark_points.ensures.kept q (inv.marked i h k lt at q sees)) (λ k lt at. of_net_points t net Marked all k lt at);
    }

pub returns : goal.returns
returns c =
    let o = c.args.self.now in
    let t = o.parts.now in
    let k = o.compact.now in
    let nets = c.args.nets.now in
    record {
      places = c.loop-net.invariant.places;
      all = λ q p q_lt behind observes.
          let n = observed_net t p in
          let is_point : IsPoint t p = subst (IsPoint t) behind.2 (members_are_points t k o.made q q_lt behind.0 p behind.1) in
          let at = point_stands t p is_point in
          let net : observed_at t at.0 ≡ get_or nets observes.0 0 = ap (observed_net t) at.2 ∙ sym observes.2 ∙ get_or_default nets observes.0 n 0 observes.1 in
          c.loop-net.invariant.marked observes.0 (omega (arith, observes.1, c.loop-net-test.false)) at.0 at.1 net q
          (subst (λ (s : Point). Contains (seeing t k s) q) (sym at.2) (seen t k o.made q q_lt p behind));
    }
