use Rattle.std.proofs.Common.{◌∙◌, ◌<◌, ◌-◌, length, drop, arith}
use Rattle.std.proofs.lemmas.List.Elements.{All-take, All-drop}
use Rattle.bridge_pairs.specs.StartPlaces.{IsNoted}
use Rattle.bridge_pairs.proofs.StartPlaces.{places_within, batch_noted, all_noted}
use Rattle.bridge_pairs.proofs.sweep.note_all.Goals as goal

pub loop-at-preserved : goal.loop-at-preserved
loop-at-preserved c =
    let circuit = c.args.ranked.now.circuit.now in
    let pairs = c.args.pairs.now in
    record {
      within = omega arith;
      len = c.note_batch.ensures.len ∙ c.loop-at.invariant.len;
      size = c.note_batch.auto.noted ∙ c.loop-at.invariant.size;
      so_far = batch_noted (λ s. IsNoted circuit pairs c.loop-at.noted s.place) (λ s. IsNoted circuit pairs c.note_batch.new.noted s.place) c.args.places.now c.loop-at.at c.min-end.result (omega arith)
          c.loop-at.invariant.so_far (λ s right. c.in_ok-note_batch.ensures.kept s.place right) c.in_ok-note_batch.ensures.all;
    }

pub returns : goal.returns
returns c = all_noted c.args.ranked.now.ranks.now c.args.pairs.now c.args.places.now c.requires.places c.args.ranked.now.circuit.now c.loop-at.noted c.loop-at.at (omega arith) c.loop-at.invariant.size c.loop-at.invariant.so_far

pub note_batch-requires-clause-places : goal.note_batch-requires-clause-places
note_batch-requires-clause-places c =
    let within = places_within c.args.ranked.now.ranks.now c.args.pairs.now c.args.places.now c.requires.places in
    All-take (λ s. s.place < length c.args.pairs.now) (c.min-end.result - c.loop-at.at) (drop c.loop-at.at c.args.places.now) (All-drop (λ s. s.place < length c.args.pairs.now) c.loop-at.at c.args.places.now within)
