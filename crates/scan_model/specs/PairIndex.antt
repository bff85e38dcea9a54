-- The places of kept pairs, found by their nets.
use Rattle.std.specs.Prelude.{ℕ, ◌+◌, ◌*◌, ◌^◌, List, map, IsPermutation}
use Rattle.std.specs.List.{enumerate_from}
use Rattle.std.specs.List.Sorted.{IsNonDecreasingBy}
use Rattle.scan_model.specs.declared.parts.Pair.{Pair}
use Rattle.scan_model.specs.declared.pair_index.PairPlace.{PairPlace}

-- two nets in one number, the first in its upper half
abbrev pub nets_number : ℕ → ℕ → ℕ
nets_number a b = a * 2 ^ 32 + b

abbrev pub placed : ℕ × Pair → PairPlace
placed e = record { nets = nets_number e.1.a e.1.b; place = e.0 }

-- the pairs with their places in the list
abbrev pub places_of : List Pair → List PairPlace
places_of pairs = map placed (enumerate_from 0 pairs)

-- each pair with its place, in rising order of the nets
pub record IsPairIndex (pairs : List Pair) (index : List PairPlace) : Type 0 where
  pub entries : IsPermutation (places_of pairs) index
  pub rising : IsNonDecreasingBy (λ p. p.nets) index
