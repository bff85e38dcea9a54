-- The places of the faults that fit in a lane.
use Rattle.std.specs.Prelude.{ℕ, List, map, filter}
use Rattle.bit_rows.specs.Lanes.{lane}
use Rattle.pattern_fits.specs.declared.fit.Fit.{Fit}

-- the places of the fits that have lane j
abbrev pub places_in : List Fit → ℕ → List ℕ
places_in fits j = map (λ f. f.place) (filter (λ f. lane f.lanes j) fits)
