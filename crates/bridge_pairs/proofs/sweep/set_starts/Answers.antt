use Rattle.std.proofs.Common.{get_or, refl, sym, ap, ◌∙◌, arith}
use Rattle.std.proofs.lemmas.List.{get_or_default}
use Rattle.bridge_pairs.specs.Ranks.{start_of}
use Rattle.bridge_pairs.proofs.PairRows.{no_start, starts_more}
use Rattle.bridge_pairs.proofs.sweep.set_starts.Goals as goal

pub loop-j-init : goal.loop-j-init
loop-j-init c = record { len = refl; starts = λ i n d lt inside. no_start c.args.rows.now c.requires.blank i n (start_of c.args.ranks.now (get_or c.args.batch.now i d)) }

pub loop-j-preserved : goal.loop-j-preserved
loop-j-preserved c =
    let ranks = c.args.ranks.now in
    let batch = c.args.batch.now in
    let j = c.loop-j.j in
    record {
      len = c.add_lanes.ensures.len ∙ c.loop-j.invariant.len;
      starts = λ i n d lt inside.
          starts_more c.loop-j.rows c.add_lanes.new.rows c.in_order-start.result.0 c.single.result c.in_ok-add_lanes.ensures.here c.in_ok-add_lanes.ensures.elsewhere
          j c.single.ensures i n (start_of ranks (get_or batch i d)) lt
          (λ same. sym (ap (λ r. r.0) c.in_order-start.ensures ∙ ap (start_of ranks) (get_or_default batch j _ d c.loop-j-test.true ∙ ap (λ k. get_or batch k d) (sym same))))
          (c.loop-j.invariant.starts i n d lt (omega (arith, inside, c.add_lanes.ensures.len)));
    }
