use Rattle.std.proofs.Common.{◌≡◌, ◌<◌, length, map, get_or, subst, refl, sym, ap, ◌∙◌, arith}
use Rattle.std.specs.Prelude.{All}
use Rattle.std.proofs.lemmas.List.{get_or-map, length-map, length-set}
use Rattle.bridge_pairs.specs.declared.start_places.StartPlace.{StartPlace}
use Rattle.bridge_pairs.specs.PairText.{is_feedback}
use Rattle.bridge_pairs.specs.PairRows.{has_pair}
use Rattle.bridge_pairs.specs.Ranks.{target_of}
use Rattle.bridge_pairs.specs.StartPlaces.{no_pair, pair_at}
use Rattle.bridge_pairs.proofs.StartPlaces.{found_within, noted_more, noted_still}
use Rattle.bridge_pairs.proofs.sweep.note_batch.Goals as goal

pub sweep-requires-clause-nets : goal.sweep-requires-clause-nets
sweep-requires-clause-nets c =
    let nets = c.args.ranked.now.circuit.now.nets in
    subst (λ xs. All (λ p. (p.a < length nets) × (p.b < length nets)) xs) (sym (c.deref.ensures.value ∙ c.in_ok-batch.ensures))
    (found_within (λ p. (p.a < length nets) × (p.b < length nets)) c.args.pairs.now c.args.places.now c.requires.nets c.requires.places)

pub sweep-requires-clause-count : goal.sweep-requires-clause-count
sweep-requires-clause-count c = omega (arith, c.requires.count, ap length (c.deref.ensures.value ∙ c.in_ok-batch.ensures), length-map c.args.places.now (λ s. pair_at c.args.pairs.now s.place))

pub loop-j-preserved : goal.loop-j-preserved
loop-j-preserved c =
    let circuit = c.args.ranked.now.circuit.now in
    let ranks = c.args.ranked.now.ranks.now in
    let pairs = c.args.pairs.now in
    let places = c.args.places.now in
    let j = c.loop-j.j in
    let none : StartPlace = record { rank = 0; place = 0 } in
    let place = (get_or places j none).place in
    let rows = c.sweep.new.rows in
    let batch = c.deref.result.now in
    let are : batch ≡ map (λ s. pair_at pairs s.place) places = c.deref.ensures.value ∙ c.in_ok-batch.ensures in
    let in_batch : j < length batch = omega (arith, c.loop-j-test.true, ap length are, length-map places (λ s. pair_at pairs s.place)) in
    let is_pair : get_or batch j no_pair ≡ pair_at pairs place = ap (λ xs. get_or xs j no_pair) are ∙ get_or-map (λ s. pair_at pairs s.place) places j none no_pair c.loop-j-test.true in
    let inside : place < length pairs = c.requires.places j none c.loop-j-test.true in
    let target = c.in_order-target.result.1 in
    let is_target : target ≡ target_of ranks (pair_at pairs place) = ap (λ r. r.1) c.in_order-target.ensures in
    let tested : c.has.result ≡ is_feedback circuit (pair_at pairs place) =
    c.has.ensures
    ∙ c.lanes.ensures j (omega (arith, c.loop-j-test.true, c.requires.count))
    ∙ ap (has_pair rows j) (is_target ∙ ap (target_of ranks) (sym is_pair))
    ∙ c.in_ok-sweep.ensures.lanes j no_pair in_batch
    ∙ ap (is_feedback circuit) is_pair in
    let in_noted : place < length c.loop-j.noted = omega (arith, inside, c.loop-j.invariant.size) in
    record {
      size = length-set c.loop-j.noted place c.has.result ∙ c.loop-j.invariant.size;
      so_far = noted_more circuit pairs c.loop-j.noted place c.has.result in_noted tested places j none c.loop-j-test.true refl c.loop-j.invariant.so_far;
      kept = λ i right. noted_still circuit pairs c.loop-j.noted place c.has.result in_noted tested i (c.loop-j.invariant.kept i right);
    }
