use Rattle.std.proofs.Common.{◌≡◌, ℕ, take, length}
use Rattle.std.specs.Prelude.{All}
use Rattle.bridge_pairs.specs.StartPlaces.{IsNoted}
use Rattle.bridge_pairs.proofs.sweep.note_batch.Given as goal

abbrev pub invariant-loop-j : goal.invariant-loop-j
invariant-loop-j l =
    let circuit = l.ranked.circuit.now in
    record {
      size : length l.noted ≡ length l.pairs;
      so_far : All (λ s. IsNoted circuit l.pairs l.noted s.place) (take l.j l.places);
      kept : (i : ℕ) → IsNoted circuit l.pairs l.fn.noted i → IsNoted circuit l.pairs l.noted i;
    }
