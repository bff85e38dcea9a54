-- Rows of values as they move through the chains.
use Rattle.std.proofs.Common.{◌≡◌, ℕ, ◌+◌, ◌<◌, eqb, List, [], ◌∷◌, length, map, get_or, Option, Some, None, refl, sym, ap, ◌∙◌, inl, inr, arith}
use Rattle.std.specs.Prelude.{slice_index_or, IfSome}
use Rattle.std.specs.List.{enumerate_from, range_with_len}
use Rattle.std.proofs.lemmas.Bool.{cases_Bool}
use Rattle.std.proofs.lemmas.List.{get_or-map, length-map}
use Rattle.std.proofs.lemmas.List.FromFn.{length-map-range_with_len, length-enumerate_from, get_or-enumerate_from, fill_by_all}
use Rattle.scan_model.specs.declared.values.Tri.{Tri}
use Rattle.scan_model.specs.declared.parts.Chain.{Chain}
use Rattle.scan_model.specs.declared.fault.CellKind.{CellKind}
use Rattle.scan_model.specs.declared.fault.Fault.{Fault}
use Rattle.scan_model.specs.declared.fault.Fault.TheVariants as fault
use Rattle.scan_model.specs.ChainShift.{loaded_at, unloaded_at}
use Rattle.scan_model.specs.ScanTest.{ScanTest, HasSite, no_chain}
use Rattle.good_sim.specs.declared.chains.Direction.{Direction}
use Rattle.good_sim.specs.declared.chains.Direction.TheVariants.{In, Out}
use Rattle.scan_model.specs.Loads.{FitChains}
use Rattle.scan_model.proofs.Loads.{same_len, length-loaded}
use Rattle.good_sim.specs.Shifts.{shifted_past, shifted, shifted_rows, SitsWithinRows}

-- a row keeps its length
length-shifted_past : (d : Direction) (kind : CellKind) (c : ℕ) (row : List Tri) → length (shifted_past d kind c row) ≡ length row
length-shifted_past In kind c row = length-map-range_with_len (loaded_at kind c row) 0 (length row)
length-shifted_past Out kind c row = length-map-range_with_len (unloaded_at kind c row) 0 (length row)

length-shifted : (d : Direction) (f : Option Fault) (h : ℕ) (row : List Tri) → length (shifted d f h row) ≡ length row
length-shifted In f h row = length-loaded f h row
length-shifted Out None h row = refl
length-shifted Out (Some (fault.Stem m v)) h row = refl
length-shifted Out (Some (fault.Branch p v)) h row = refl
length-shifted Out (Some (fault.Bridge a b kind)) h row = refl
length-shifted Out (Some (fault.Cell g c kind)) h row = elim (cases_Bool (eqb h g)) [
  | inl same ↦ rw same (length-shifted_past Out kind c row)
  | inr other ↦ rw other refl
]

lengths_kept : (d : Direction) (f : Option Fault) (k : ℕ) (rows : List (List Tri)) → map length (map (λ e. shifted d f e.0 e.1) (enumerate_from k rows)) ≡ map length rows
lengths_kept d f k [] = refl
lengths_kept d f k (r ∷ rs) = rw (length-shifted d f k r, lengths_kept d f (k + 1) rs) refl

pub shifted_rows-fit : (d : Direction) (f : Option Fault) (chains : List Chain) (rows : List (List Tri)) → FitChains chains rows → FitChains chains (shifted_rows d f rows)
shifted_rows-fit d f chains rows fit = lengths_kept d f 0 rows ∙ fit

pub length-shifted_rows : (d : Direction) (f : Option Fault) (rows : List (List Tri)) → length (shifted_rows d f rows) ≡ length rows
length-shifted_rows d f rows = length-map (enumerate_from 0 rows) (λ e. shifted d f e.0 e.1) ∙ length-enumerate_from 0 rows

-- the row of chain h
pub shifted_rows-at : (d : Direction) (f : Option Fault) (rows : List (List Tri)) (h : ℕ) → h < length rows → slice_index_or (shifted_rows d f rows) h [] ≡ shifted d f h (slice_index_or rows h [])
shifted_rows-at d f rows h lt =
    let none : ℕ × List Tri = (0, []) in
    let zero_add : 0 + h ≡ h = omega arith in
    get_or-map (λ e. shifted d f e.0 e.1) (enumerate_from 0 rows) h none [] (omega (arith, length-enumerate_from 0 rows))
    ∙ ap (λ (e : ℕ × List Tri). shifted d f e.0 e.1) (get_or-enumerate_from 0 rows h none lt)
    ∙ ap (λ (n : ℕ). shifted d f n (get_or rows h [])) zero_add

-- row by row
pub shifted_rows-from : (d : Direction) (f : Option Fault) (rows : List (List Tri)) → map (λ h. shifted d f h (slice_index_or rows h [])) (range_with_len 0 (length rows)) ≡ shifted_rows d f rows
shifted_rows-from d f rows = sym (fill_by_all (λ h. shifted d f h (slice_index_or rows h [])) (shifted_rows d f rows) (length rows) [] (length-shifted_rows d f rows) (λ h lt. shifted_rows-at d f rows h lt))

-- a fault of the test sits within the rows of its chains
pub sits_within : (t : ScanTest) (f : Option Fault) (rows : List (List Tri)) → IfSome f (HasSite t) → FitChains t.chains rows → SitsWithinRows f rows
sits_within t None rows site fit = λ h lt. tt
sits_within t (Some (fault.Stem m v)) rows site fit = λ h lt. tt
sits_within t (Some (fault.Branch p v)) rows site fit = λ h lt. tt
sits_within t (Some (fault.Bridge a b kind)) rows site fit = λ h lt. tt
sits_within t (Some (fault.Cell g c kind)) rows site fit = λ h lt same.
    let row : length (slice_index_or t.chains g no_chain).cells ≡ length (slice_index_or rows g []) = same_len t.chains rows g no_chain [] fit site.0 in
    rw same (omega (arith, row, site.1))
