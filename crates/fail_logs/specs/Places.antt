-- For each chain a row with the places of its cells among the points.
use Rattle.std.specs.Prelude.{ℕ, ◌+◌, List, [], ◌∷◌, slice_index_or, slice_set}
use Rattle.scan_model.specs.declared.parts.Point.{Point}
use Rattle.scan_model.specs.declared.parts.Point.TheVariants.{Output, Cell}

-- the rows with the place of one more point
abbrev pub with_place : List (List ℕ) → Point → ℕ → List (List ℕ)
with_place rows (Output k) place = rows
with_place rows (Cell h i) place = slice_set rows h (slice_set (slice_index_or rows h []) i place)

-- the rows with the places of these points, of which the first is at place k
abbrev pub places_in : List (List ℕ) → ℕ → List Point → List (List ℕ)
places_in rows k [] = rows
places_in rows k (s ∷ more) = places_in (with_place rows s k) (k + 1) more
