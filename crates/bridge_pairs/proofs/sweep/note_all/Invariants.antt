use Rattle.std.proofs.Common.{◌≡◌, ◌≤◌, ◌-◌, take, length}
use Rattle.std.specs.Prelude.{All}
use Rattle.bridge_pairs.specs.StartPlaces.{IsNoted}
use Rattle.bridge_pairs.proofs.sweep.note_all.Given as goal

abbrev pub invariant-loop-at : goal.invariant-loop-at
invariant-loop-at l =
    let circuit = l.ranked.circuit.now in
    record {
      within : l.at ≤ length l.places;
      len : length l.rows ≡ length circuit.nets;
      size : length l.noted ≡ length l.pairs;
      so_far : All (λ s. IsNoted circuit l.pairs l.noted s.place) (take l.at l.places);
    }

abbrev pub decreases-loop-at : goal.decreases-loop-at
decreases-loop-at l = length l.places - l.at
