use Rattle.std.proofs.Common.{◌≡◌, ℕ, ◌+◌, ◌||◌, ◌&&◌, ◌++◌, ◌∙◌, None, List, [], length, take, drop, get_or, sym, ap, subst, arith}
use Rattle.std.specs.List.{list_any, range_with_len}
use Rattle.std.proofs.lemmas.List.{take_at, get_or_default}
use Rattle.scan_model.specs.declared.parts.Point.TheVariants.{Output}
use Rattle.scan_model.specs.declared.parts.Point.{Point}
use Rattle.scan_model.specs.ScanTest.{point_at, points_of}
use Rattle.lane_rows.specs.Lanes.{lane}
use Rattle.explained_lanes.specs.Fails.{fails_at, Tells}
use Rattle.explained_lanes.specs.Traces.{is_shifted_through, is_from}
use Rattle.explained_lanes.proofs.Ranges.{any_more}
use Rattle.explained_lanes.proofs.ToldLanes.{tells_same}
use Rattle.back_trace.proofs.chains.firsts.Goals as goal

pub loop-k-preserved : goal.loop-k-preserved
loop-k-preserved c =
    let t = c.args.parts.now in
    let new = c.take_in.new.firsts in
    let old = c.loop-k.firsts.items in
    let k = c.loop-k.k in
    let points = c.as_slice-points.result.now in
    let whole : take c.loop-k.firsts.len (new ++ drop (length new) old) ≡ new = take_at new (drop (length new) old) c.loop-k.firsts.len (c.take_in.auto.firsts ∙ c.deref_mut.ensures.len) in
    let is_points : points ≡ points_of t = c.as_slice-points.ensures ∙ c.points.ensures.value in
    let at : get_or points k (Output 0) ≡ point_at t k = ap (λ (ps : List Point). get_or ps k (Output 0)) is_points in
    let fails_len : length c.args.fails.now ≡ length points = c.requires ∙ ap length (sym is_points) in
    let row_is : c.index-fails-k.result ≡ get_or c.args.fails.now k [] = c.index-fails-k.is ∙ get_or_default c.args.fails.now k c.index-fails-k.result [] (omega (arith, fails_len, c.loop-k-test.true)) in
    let step = rw c.deref_mut.ensures.value at c.take_in.ensures in
    record {
      len = ap length whole ∙ c.take_in.auto.firsts ∙ ap length c.deref_mut.ensures.value ∙ c.loop-k.invariant.len;
      first = rw whole (λ h lh i.
          let P = λ (j : ℕ). list_any (λ m. fails_at c.args.fails.now j m && is_shifted_through c.args.shift j h i (point_at t m)) (range_with_len 0 k) in
          tells_same (is_from (get_or new h None) i) (λ j. P j || (lane c.index-fails-k.result j && is_shifted_through c.args.shift j h i (get_or points k (Output 0))))
          (λ j. list_any (λ m. fails_at c.args.fails.now j m && is_shifted_through c.args.shift j h i (point_at t m)) (range_with_len 0 (k + 1)))
          (λ j lj.
          ap (λ (r : List ℕ). P j || (lane r j && is_shifted_through c.args.shift j h i (get_or points k (Output 0)))) row_is
          ∙ ap (λ (p : Point). P j || (fails_at c.args.fails.now j k && is_shifted_through c.args.shift j h i p)) at
          ∙ sym (any_more (λ m. fails_at c.args.fails.now j m && is_shifted_through c.args.shift j h i (point_at t m)) k))
          (step h i P (omega (arith, c.loop-k.invariant.len, lh)) (c.loop-k.invariant.first h lh i)));
    }

pub returns-clause-firsts : goal.returns-clause-firsts
returns-clause-firsts c = λ h lh i.
    let t = c.args.parts.now in
    let is_len : length c.as_slice-points.result.now ≡ length (points_of t) = ap length (c.as_slice-points.ensures ∙ c.points.ensures.value) in
    let whole : c.loop-k.k ≡ length (points_of t) = omega (arith, c.loop-k.auto.k-end, c.loop-k-test.false, is_len) in
    rw c.from_vec.ensures (subst (λ (n : ℕ). Tells (is_from (get_or c.loop-k.firsts.items h None) i) (λ j. list_any (λ m. fails_at c.args.fails.now j m && is_shifted_through c.args.shift j h i (point_at t m)) (range_with_len 0 n))) whole (c.loop-k.invariant.first h lh i))
