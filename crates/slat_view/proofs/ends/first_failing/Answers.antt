use Rattle.std.proofs.Common.{◌≡◌, ◌+◌, not, ◌&&◌, ◌||◌, length, get_or, sym, ap, ◌∙◌, inl, inr, arith}
use Rattle.std.proofs.lemmas.Bool.{cases_eq}
use Rattle.std.proofs.lemmas.List.{get_or_default, length_push}
use Rattle.lane_rows.specs.Lanes.{lane}
use Rattle.log_rows.specs.declared.point_row.PointRow.{PointRow}
use Rattle.log_rows.specs.PointRows.{no_point_row}
use Rattle.match_counts.specs.Flips.{point_row_at}
use Rattle.slat_view.specs.Ends.{is_failing_at, any_before, is_first}
use Rattle.slat_view.proofs.FirstLast.{pushed_at, pushed_before}
use Rattle.slat_view.proofs.Ranges.{any_more}
use Rattle.slat_view.proofs.ends.first_failing.Goals as goal

pub loop-k-preserved : goal.loop-k-preserved
loop-k-preserved c =
    let rows = c.args.rows.now in
    let k = c.loop-k.k in
    let d = c.index-rows-k.result in
    let old = c.loop-k.firsts.items in
    let row = c.and.result in
    let pushed = c.in_ok-push.ensures.items in
    let is : get_or rows k d ≡ point_row_at rows k = get_or_default rows k d no_point_row (omega (arith, c.loop-k-test.true)) in
    record {
      len = ap length pushed ∙ length_push old row ∙ ap (λ n. n + 1) c.loop-k.invariant.len;
      seen = λ j lj.
          c.or-seen.ensures j lj
          ∙ ap (λ b. b || lane (get_or rows k d).failing j) (c.loop-k.invariant.seen j lj)
          ∙ ap (λ (r : PointRow). any_before rows j k || lane r.failing j) is
          ∙ sym (any_more (is_failing_at rows j) k);
      first = λ j q lj lq. rw pushed (elim (cases_eq q k) [
        | inl same ↦
            let here : lane row j ≡ is_first rows j k =
            c.and.ensures j lj
            ∙ ap (λ b. lane (get_or rows k d).failing j && b) (c.not.ensures j lj ∙ ap not (c.loop-k.invariant.seen j lj))
            ∙ ap (λ (r : PointRow). lane r.failing j && not (any_before rows j k)) is in
            pushed_at old row j k q (is_first rows j q) c.loop-k.invariant.len (here ∙ ap (is_first rows j) (sym same)) same
        | inr other ↦ pushed_before old row j q (omega (arith, c.loop-k.invariant.len, lq, other)) ∙ c.loop-k.invariant.first j q lj (omega (arith, lq, other))
      ]);
    }
