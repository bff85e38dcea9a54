use Rattle.std.proofs.Common.{◌≡◌, ℕ, ◌+◌, ◌-◌, ◌<◌, not, ◌&&◌, ◌||◌, length, get_or, replicate, sym, ap, ◌∙◌, inl, inr, arith}
use Rattle.std.proofs.lemmas.Bool.{cases_eq}
use Rattle.std.proofs.lemmas.List.{get_or_default, length-set, length-replicate}
use Rattle.lane_rows.specs.Lanes.{lane}
use Rattle.log_rows.specs.declared.point_row.PointRow.{PointRow}
use Rattle.log_rows.specs.PointRows.{no_point_row}
use Rattle.match_counts.specs.Flips.{point_row_at}
use Rattle.slat_view.specs.Ends.{is_failing_at, any_from, is_last}
use Rattle.slat_view.proofs.FirstLast.{set_at, set_other, from_more, from_end}
use Rattle.slat_view.proofs.Ranges.{or_swap}
use Rattle.slat_view.proofs.ends.last_failing.Goals as goal

pub loop-k-preserved : goal.loop-k-preserved
loop-k-preserved c =
    let rows = c.args.rows.now in
    let k = c.loop-k.k - 1 in
    let d = c.index-rows-k.result in
    let old = c.loop-k.lasts.items in
    let row = c.and.result in
    let lt : k < length rows = omega (arith, c.loop-k.invariant.start, c.loop-k-test.true) in
    let next : c.loop-k.k ≡ k + 1 = omega (arith, c.loop-k-test.true) in
    let is : get_or rows k d ≡ point_row_at rows k = get_or_default rows k d no_point_row lt in
    let behind : (j : ℕ) → j < 512 → lane c.loop-k.seen j ≡ any_from rows j (k + 1) = λ j lj. c.loop-k.invariant.seen j lj ∙ ap (any_from rows j) next in
    record {
      start = omega (arith, c.loop-k.invariant.start);
      len = length-set old k row ∙ c.loop-k.invariant.len;
      seen = λ j lj.
          c.or-seen.ensures j lj
          ∙ ap (λ b. b || lane (get_or rows k d).failing j) (behind j lj)
          ∙ ap (λ (r : PointRow). any_from rows j (k + 1) || lane r.failing j) is
          ∙ or_swap (any_from rows j (k + 1)) (is_failing_at rows j k)
          ∙ sym (from_more rows j k lt);
      last = λ j q lj low high. elim (cases_eq q k) [
        | inl same ↦
            let here : lane row j ≡ is_last rows j k =
            c.and.ensures j lj
            ∙ ap (λ b. lane (get_or rows k d).failing j && b) (c.not.ensures j lj ∙ ap not (behind j lj))
            ∙ ap (λ (r : PointRow). lane r.failing j && not (any_from rows j (k + 1))) is in
            set_at old row j k q (is_last rows j q) (omega (arith, lt, c.loop-k.invariant.len)) (here ∙ ap (is_last rows j) (sym same)) same
        | inr other ↦ set_other old row j k q other ∙ c.loop-k.invariant.last j q lj (omega (arith, low, other, next)) high
      ];
    }

pub loop-k-init : goal.loop-k-init
loop-k-init c =
    let rows = c.args.rows.now in
    let is : c.in_ok-lasts.lasts.items ≡ replicate (length rows) c.none.result = c.in_ok-lasts.ensures.items_if_clones_equal (λ y e. e) in
    record {
      start = omega arith;
      len = ap length is ∙ length-replicate (length rows) c.none.result;
      seen = λ j lj. c.none-seen.ensures j lj ∙ sym (from_end rows j);
      last = λ j q lj low high. absurd (omega (arith, low, high));
    }
