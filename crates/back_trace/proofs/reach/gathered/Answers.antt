use Rattle.std.proofs.Common.{◌≡◌, ◌∙◌, ℕ, ◌&&◌, ◌||◌, Bool, List, [], None, get_or, sym, ap}
use Rattle.std.proofs.lemmas.List.{get_or_default}
use Rattle.lane_rows.specs.Lanes.{lane}
use Rattle.back_trace.specs.Keys.{is_key}
use Rattle.explained_lanes.specs.Traces.{lane_at}
use Rattle.back_trace.proofs.NetRows.{gathered_more}
use Rattle.back_trace.proofs.reach.gathered.Goals as goal

pub loop-k-preserved : goal.loop-k-preserved
loop-k-preserved c =
    let new = c.add_at_key.new.rows in
    let old = c.loop-k.rows in
    let k = c.loop-k.k in
    let points = c.args.points.now in
    let keys = c.args.keys.now in
    let row = c.index-points-k.result in
    let row_is : row ≡ get_or points k [] = c.index-points-k.is ∙ get_or_default points k row [] c.loop-k-test.true in
    record {
      len = c.add_at_key.ensures.len ∙ c.loop-k.invariant.len;
      rows = λ j n lj ln. gathered_more (lane c.args.lanes j) (λ m. lane_at points j m && is_key (get_or keys m None) n) k (lane_at old j n) (lane_at new j n) (lane row j) (is_key (get_or keys k None) n)
          (c.loop-k.invariant.rows j n lj ln)
          (c.in_ok-add_at_key.ensures.lanes j n lj ∙ ap (λ (b : Bool). lane_at old j n || (b && is_key (get_or keys k None) n)) (c.and.ensures j lj))
          (ap (λ (r : List ℕ). lane r j && is_key (get_or keys k None) n) (sym row_is));
    }
