use Rattle.std.proofs.Common.{◌≡◌, ℕ, ◌∷◌, ◌++◌, List, [], None, length, get_or, ap, subst, ◌∙◌, inl, inr, arith}
use Rattle.std.proofs.lemmas.Bool.{cases_lt}
use Rattle.std.proofs.lemmas.List.{get_or_append_left, get_or_push, length-append}
use Rattle.scan_model.specs.declared.parts.Point.{Point}
use Rattle.scan_model.specs.declared.parts.Point.TheVariants.{Output}
use Rattle.lane_rows.specs.Planes.{Planes, held}
use Rattle.lane_rows.specs.Sources.{no_planes}
use Rattle.lane_rows.specs.GoodRows.{pattern_of}
use Rattle.fail_logs.specs.FrameFacts.{point_among}
use Rattle.compact_points.specs.Compaction.{compact_value}
use Rattle.compact_points.proofs.PointsThere.{point_is_there}
use Rattle.chain_compactor.specs.CompactCounts.{expected_at}
use Rattle.chain_compactor.proofs.counting.shown_rows.Goals as goal

pub shown_in_block-requires-clause-point : goal.shown_in_block-requires-clause-point
shown_in_block-requires-clause-point c =
    let k = c.args.compact.now in
    let points = c.as_slice-points.ensures ∙ c.in_order.ensures in
    rw points (point_is_there c.args.parts.now k c.requires.made c.loop-point.point-index (omega (arith, c.loop-point-test.true, ap length points)))

pub loop-point-preserved : goal.loop-point-preserved
loop-point-preserved c =
    let t = c.args.parts.now in
    let k = c.args.compact.now in
    let i = c.loop-point.point-index in
    let inv = c.loop-point.invariant in
    let old : List Planes = c.loop-point.rows.items in
    let row = c.shown_in_block.result in
    let pushed : c.push.new.self.items ≡ old ++ row ∷ [] = c.in_ok-push.ensures.items in
    let points : c.as_slice-points.result.now ≡ k.points = c.as_slice-points.ensures ∙ c.in_order.ensures in
    record {
      len = omega (arith, ap length pushed, length-append old (row ∷ []), inv.len);
      value = λ b rows q j lt lane_lt there. elim (cases_lt q i) [
        | inl before ↦
            let at : expected_at c.push.new.self.items q ≡ expected_at old q = ap (λ (xs : List Planes). get_or xs q no_planes) pushed ∙ get_or_append_left old (row ∷ []) no_planes q (omega (arith, before, inv.len)) in
            ap (λ (x : Planes). held x j) at ∙ inv.value b rows q j before lane_lt there
        | inr now ↦
            let same : i ≡ q = omega (arith, lt, now) in
            let at : expected_at c.push.new.self.items i ≡ row = ap (λ (xs : List Planes). get_or xs i no_planes) pushed ∙ get_or_push old row no_planes i inv.len in
            subst (λ (p : ℕ). held (expected_at c.push.new.self.items p) j ≡ compact_value t k None (pattern_of b j) (point_among k.points p)) same
            (ap (λ (x : Planes). held x j) at ∙ c.shown_in_block.ensures b j rows lane_lt there ∙ ap (λ (ps : List Point). compact_value t k None (pattern_of b j) (get_or ps i (Output 0))) points)
      ];
    }
