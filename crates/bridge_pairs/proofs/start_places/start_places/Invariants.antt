use Rattle.std.proofs.Common.{◌≡◌, map}
use Rattle.std.specs.List.{range_with_len}
use Rattle.bridge_pairs.specs.StartPlaces.{start_place}
use Rattle.bridge_pairs.proofs.start_places.start_places.Given as goal

abbrev pub invariant-loop-place : goal.invariant-loop-place
invariant-loop-place l = l.places.items ≡ map (start_place l.ranks l.pairs) (range_with_len 0 l.place)
