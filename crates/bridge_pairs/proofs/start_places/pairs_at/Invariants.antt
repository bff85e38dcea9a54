use Rattle.std.proofs.Common.{◌≡◌, map, take}
use Rattle.bridge_pairs.specs.StartPlaces.{pair_at}
use Rattle.bridge_pairs.proofs.start_places.pairs_at.Given as goal

abbrev pub invariant-loop-at : goal.invariant-loop-at
invariant-loop-at l = l.found.items ≡ map (λ s. pair_at l.pairs s.place) (take l.at-index l.places)
