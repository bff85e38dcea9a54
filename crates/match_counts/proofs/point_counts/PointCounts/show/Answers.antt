use Rattle.std.proofs.Common.{Bool, ◌&&◌, ap, ◌∙◌}
use Rattle.scan_model.specs.Masks.{flip_shows_from}
use Rattle.lane_rows.specs.GoodRows.{pattern_of}
use Rattle.packed_sim.specs.PackedParts.{observed_at}
use Rattle.match_counts.proofs.TableSums.{flip_table}
use Rattle.match_counts.proofs.point_counts.PointCounts.show.Goals as goal

pub returns-clause-flip : goal.returns-clause-flip
returns-clause-flip g c = λ σ right.
    let o = c.args.self.now in
    let t = o.parts.now in
    let b = o.block in
    flip_table t σ o.good.now c.flip.new.scratch b c.args.net o.rows.now c.gather-gathered.new.self (λ j lt. right.capture b j o.block_within lt) o.rows_len
    (λ k j lt lj captured. c.flip.ensures.shows_from σ right k j lt lj captured ∙ ap (λ (x : Bool). x && flip_shows_from t.netlist (σ.source (pattern_of b j)) c.args.net (observed_at t k)) (c.all.ensures j lj))
    c.in_ok-gathered.ensures
