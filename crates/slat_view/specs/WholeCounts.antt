-- The counts of all patterns of a die with the faults that fit each.
use Rattle.std.specs.Prelude.{◌≡◌, ◌/◌, ◌%◌, ◌<◌, ℕ, List, [], length, sum_by, IfSome, slice_index_or}
use Rattle.std.specs.Option.{option_map_or}
use Rattle.scan_model.specs.declared.logs.LogFacts.{LogFacts}
use Rattle.scan_model.specs.ScanTest.{ScanTest}
use Rattle.pattern_fits.specs.declared.fit.Fit.{Fit}
use Rattle.slat_view.specs.declared.whole.WholeSlat.{WholeSlat}
use Rattle.slat_view.specs.Slat.{failing_patterns, slat_rows, fitting_places}
use Rattle.pattern_fits.specs.FitPlaces.{places_in}

-- the places of the faults that fit a pattern, by the fits of each block
abbrev pub places_at : List (List Fit) → ℕ → List ℕ
places_at blocks w = places_in (slice_index_or blocks (w / 512) []) (w % 512)

-- they are so of the first patterns
abbrev pub HavePlacesUpTo : ScanTest → List LogFacts → ℕ → List (List Fit) → Type 0
HavePlacesUpTo t logs n blocks = (w : ℕ) → w < n → places_at blocks w ≡ fitting_places t logs w

-- how many fits there are in the blocks
abbrev pub fits_in : List (List Fit) → ℕ
fits_in blocks = sum_by (λ fits. length fits) blocks

-- how many are kept
abbrev pub kept_fits : WholeSlat → ℕ
kept_fits x = option_map_or fits_in x.blocks 0

-- the failing patterns of the logs are counted and the explained ones listed, and where fits are kept they tell the places of each pattern
pub record IsWholeOf (t : ScanTest) (logs : List LogFacts) (x : WholeSlat) : Type 0 where
  pub failing : x.slat.failing ≡ failing_patterns t logs
  pub rows : x.slat.rows ≡ slat_rows t logs
  pub places : IfSome x.blocks (HavePlacesUpTo t logs (length t.patterns))
