use Rattle.std.proofs.Common.{◌≡◌, ◌++◌, ◌∷◌, [], List, map, get_or, sym, ap, ◌∙◌, arith}
use Rattle.std.specs.List.{range_with_len}
use Rattle.std.proofs.lemmas.List.FromFn.{map-range_with_len_more}
use Rattle.bridge_pairs.specs.declared.start_places.StartPlace.{StartPlace}
use Rattle.bridge_pairs.specs.Ranks.{start_of}
use Rattle.bridge_pairs.specs.StartPlaces.{pair_at, start_place}
use Rattle.bridge_pairs.proofs.start_places.start_places.Goals as goal

pub loop-place-preserved : goal.loop-place-preserved
loop-place-preserved c =
    let ranks = c.args.ranks.now in
    let pairs = c.args.pairs.now in
    let i = c.loop-place.place in
    let start : c.in_order-start.result.0 ≡ start_of ranks (pair_at pairs i) = ap (λ r. r.0) c.in_order-start.ensures in
    let pushed : StartPlace = record { rank = get_or ranks c.in_order-start.result.0 0; place = i } in
    let is : pushed ≡ start_place ranks pairs i = ap (λ n. record { rank = get_or ranks n 0; place = i }) start in
    c.in_ok-push.ensures.items
    ∙ ap (λ (xs : List StartPlace). xs ++ pushed ∷ []) c.loop-place.invariant
    ∙ ap (λ (s : StartPlace). map (start_place ranks pairs) (range_with_len 0 i) ++ s ∷ []) is
    ∙ sym (map-range_with_len_more (start_place ranks pairs) 0 i i (omega arith))
