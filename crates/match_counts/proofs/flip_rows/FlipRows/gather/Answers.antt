use Rattle.std.proofs.Common.{◌≡◌, ℕ, Bool, ◌&&◌, List, get_or, ap, ◌∙◌, arith}
use Rattle.std.specs.Prelude.{sum_by}
use Rattle.std.proofs.lemmas.List.{take_all}
use Rattle.std.proofs.lemmas.List.Sums.{sum_by_more}
use Rattle.lane_rows.specs.Lanes.{count_lanes}
use Rattle.packed_sim.specs.PackedParts.{points_of_net}
use Rattle.log_rows.specs.declared.side.Side.{Side}
use Rattle.log_rows.specs.declared.side.Side.TheVariants.{Failing, Passing}
use Rattle.match_counts.specs.Flips.{tallied, list_on, caught_lane}
use Rattle.match_counts.proofs.Sums.{sum_next}
use Rattle.fault_effects.proofs.NetPoints.{own_all_within}
use Rattle.match_counts.proofs.FlipSums.{shown_by_nets, own_not}
use Rattle.match_counts.proofs.flip_rows.FlipRows.gather.Goals as goal

pub add_net-requires-clause-net : goal.add_net-requires-clause-net
add_net-requires-clause-net c = own_all_within c.args.counts.now.parts.now c.args.counts.now.good.now c.args.scratch.now c.nets-nets.result.now c.requires.built c.requires.scratch c.nets-nets.ensures.all c.loop-net.net-index _ c.loop-net-test.true

pub loop-net-init : goal.loop-net-init
loop-net-init c = λ side. by_side side
  where
    by_side : (side : Side) (m : ℕ → Bool) → tallied (list_on side (record { failing = c.clear.new.self; passing = c.clear-2.new.self })) m ≡ 0
    by_side Failing m = ap (λ (rows : List (List ℕ)). tallied rows m) c.clear.ensures.items
    by_side Passing m = ap (λ (rows : List (List ℕ)). tallied rows m) c.clear-2.ensures.items

pub loop-net-preserved : goal.loop-net-preserved
loop-net-preserved c = λ side m.
    let t = c.args.counts.now.parts.now in
    let nets = c.nets-nets.result.now in
    let i = c.loop-net.net-index in
    let f = λ (x : ℕ). sum_by (λ k. count_lanes (λ j. caught_lane t c.args.counts.now.good.now c.args.scratch.now c.args.counts.now.block c.args.counts.now.rows.now side k j && m j)) (points_of_net t x) in
    sum_next _ (tallied (list_on side c.loop-net.self) m) _ _ (f (get_or nets i 0))
    (c.in_ok-add_net.ensures side m)
    (c.loop-net.invariant side m)
    (sum_by_more f nets i 0 c.loop-net-test.true)

pub returns : goal.returns
returns c = λ side m.
    let t = c.args.counts.now.parts.now in
    let g = c.args.counts.now.good.now in
    let s = c.args.scratch.now in
    let nets = c.nets-nets.result.now in
    let f = λ (x : ℕ). sum_by (λ k. count_lanes (λ j. caught_lane t g s c.args.counts.now.block c.args.counts.now.rows.now side k j && m j)) (points_of_net t x) in
    let below = own_all_within t g s nets c.requires.built c.requires.scratch c.nets-nets.ensures.all in
    c.loop-net.invariant side m
    ∙ ap (λ (ns : List ℕ). sum_by f ns) (take_all c.loop-net.net-index nets (omega arith))
    ∙ shown_by_nets t g s c.args.counts.now.block c.args.counts.now.rows.now side m nets c.points.ensures.fits c.nets-nets.ensures.differ below (λ n lt absent. own_not s n nets c.nets-nets.ensures.all absent)
