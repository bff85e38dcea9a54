use Rattle.std.proofs.Common.{◌≡◌, ◌++◌, ◌+◌, length}
use Rattle.std.specs.Prelude.{map}
use Rattle.std.specs.List.{enumerate_from}
use Rattle.scan_model.specs.PairIndex.{placed, places_of}
use Rattle.scan_model.proofs.pair_index.places_of.Given as goal

abbrev pub invariant-loop-rest : goal.invariant-loop-rest
invariant-loop-rest l = (l.places ++ map placed (enumerate_from l.place l.rest) ≡ places_of l.pairs) × (l.place + length l.rest ≡ length l.pairs)

abbrev pub decreases-loop-rest : goal.decreases-loop-rest
decreases-loop-rest l = length l.rest
