use Rattle.std.proofs.Common.{◌∷◌, ◌++◌, List, [], map, sym, ap, ◌∙◌, arith, ℕ, Vec, Global}
use Rattle.std.specs.List.{range_with_len}
use Rattle.std.proofs.lemmas.List.{map_push}
use Rattle.std.proofs.lemmas.List.FromFn.{map-range_with_len_more}
use Rattle.fail_logs.specs.Frames.{rows_view}
use Rattle.chain_compactor.specs.ObservationPoints.{channels_of}
use Rattle.chain_compactor.proofs.tables.channels_of_all.Goals as goal

pub loop-chain-preserved : goal.loop-chain-preserved
loop-chain-preserved c =
    let k = c.args.compact.now in
    let h = c.loop-chain.chain in
    let row = c.in_ok-channels_of.field-0 in
    ap rows_view c.in_ok-push.ensures.items
    ∙ map_push (λ (r : Vec ℕ Global). r.items) c.loop-chain.rows.items row
    ∙ ap (λ (ys : List (List ℕ)). ys ++ row.items ∷ []) c.loop-chain.invariant
    ∙ ap (λ (y : List ℕ). map (channels_of k) (range_with_len 0 h) ++ y ∷ []) c.in_ok-channels_of.ensures
    ∙ sym (map-range_with_len_more (channels_of k) 0 h h (omega arith))
