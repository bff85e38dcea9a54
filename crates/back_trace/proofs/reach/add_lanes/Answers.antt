use Rattle.std.proofs.Common.{◌≡◌, ◌∙◌, ℕ, ◌<◌, ◌&&◌, ◌||◌, ◌==◌, List, set, ap}
use Rattle.lane_rows.specs.Lanes.{lane}
use Rattle.explained_lanes.specs.Traces.{lane_at}
use Rattle.back_trace.proofs.NetRows.{lanes_added, on_ok}
use Rattle.back_trace.proofs.reach.add_lanes.Goals as goal

pub returns-clause-lanes : goal.returns-clause-lanes
returns-clause-lanes c =
    let old = c.args.rows.now in
    let new = c.write.new.self in
    let net = c.args.net in
    let lanes = c.args.lanes in
    on_ok c.write.result (new ≡ set old net c.or-more.result) ((j n : ℕ) → j < 512 → lane_at new j n ≡ (lane_at old j n || (lane lanes j && (net == n))))
    (λ is j n lj. ap (λ (rows : List (List ℕ)). lane_at rows j n) is ∙ lanes_added old net c.or-more.result j (lane lanes j) c.requires (c.or-more.ensures j lj ∙ ap (λ (r : List ℕ). lane r j || lane lanes j) c.row.ensures) n)
    c.write.ensures.rows
