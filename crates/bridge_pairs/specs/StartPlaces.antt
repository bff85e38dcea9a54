-- The places of pairs in a list, with the ranks of their starts, and what is noted of the pair at each.
use Rattle.std.specs.Prelude.{◌≡◌, ℕ, List, length, map, Bool, false, slice_index, slice_index_or}
use Rattle.std.specs.List.{range_with_len}
use Rattle.scan_model.specs.declared.parts.Pair.{Pair}
use Rattle.scan_model.specs.Netlist.{Netlist}
use Rattle.bridge_pairs.specs.declared.start_places.StartPlace.{StartPlace}
use Rattle.bridge_pairs.specs.PairText.{is_feedback}
use Rattle.bridge_pairs.specs.Ranks.{start_of}

-- what stands past the end of a list of pairs
abbrev pub no_pair : Pair
no_pair = record { a = 0; b = 0; row = 0 }

abbrev pub pair_at : List Pair → ℕ → Pair
pair_at pairs i = slice_index_or pairs i no_pair

abbrev pub start_place : List ℕ → List Pair → ℕ → StartPlace
start_place ranks pairs i = record { rank = slice_index ranks (start_of ranks (pair_at pairs i)); place = i }

-- the places of all pairs, in the order of the list
abbrev pub start_places : List ℕ → List Pair → List StartPlace
start_places ranks pairs = map (start_place ranks pairs) (range_with_len 0 (length pairs))

-- what is noted of pair i is right
abbrev pub IsNoted : Netlist → List Pair → List Bool → ℕ → Type 0
IsNoted c pairs noted i = slice_index_or noted i false ≡ is_feedback c (pair_at pairs i)
