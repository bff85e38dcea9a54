use Rattle.std.proofs.Common.{ℕ, ◌+◌, ◌<◌, List, [], ◌∷◌, ◌++◌, get_or, set, sym, ap, ◌∙◌, arith, Vec, Global}
use Rattle.std.proofs.lemmas.List.{map-set, get_or-map, length-set, length-map}
use Rattle.fail_logs.specs.Frames.{rows_view}
use Rattle.fail_logs.proofs.CutGroups.{put_point, pass_point}
use Rattle.fail_logs.proofs.groups.point_rows.Goals as goal
use Rattle.fail_logs.proofs.groups.point_rows.Goals.{then-row-len+in_ok-push, else-row-len}

pub loop-k-preserved : goal.loop-k-preserved
loop-k-preserved c =
    let rows : List (Vec ℕ Global) = c.loop-k.rows.items in
    let row : ℕ = c.row_at-row.result in
    let room = length-map rows (λ (v : Vec ℕ Global). v.items) ∙ c.loop-k.invariant.count in
    elim c.if-row-len.branch [
      | then-row-len+in_ok-push w ↦
          let inside : row < c.args.chains + 1 = omega (arith, w.if-row-len.true, c.len.ensures, c.loop-k.invariant.count) in
          let old = get_or-map (λ (v : Vec ℕ Global). v.items) rows row w.index_mut.result.now [] (omega (arith, inside, c.loop-k.invariant.count)) in
          let added = w.in_ok-push.ensures.items ∙ ap (λ (xs : List ℕ). xs ++ c.loop-k.k ∷ []) (ap (λ (v : Vec ℕ Global). v.items) w.index_mut.ensures.value ∙ sym old) in
          rw w.rows-is (record {
            count = length-set rows row w.push.new.self ∙ c.loop-k.invariant.count;
            rows = λ r lt. ap (λ (vs : List (List ℕ)). get_or vs r []) (map-set (λ (v : Vec ℕ Global). v.items) rows row w.push.new.self ∙ ap (set (rows_view rows) row) added)
                ∙ put_point (rows_view rows) c.args.points.now (c.args.chains + 1) c.loop-k.k room c.loop-k.invariant.rows row c.row_at-row.ensures inside r lt;
          })
      | else-row-len w ↦
          rw w.rows-is (record {
            count = c.loop-k.invariant.count;
            rows = λ r lt. pass_point (rows_view rows) c.args.points.now (c.args.chains + 1) c.loop-k.k room c.loop-k.invariant.rows (omega (arith, w.if-row-len.false, c.len.ensures, c.loop-k.invariant.count, c.row_at-row.ensures)) r lt;
          })
    ]
