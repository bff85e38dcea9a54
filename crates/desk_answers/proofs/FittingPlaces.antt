-- The places of the faults that fit a pattern are places of the universe.
use Rattle.std.proofs.Common.{ℕ, ◌<◌, List, length, get_or, arith}
use Rattle.std.specs.Prelude.{All}
use Rattle.std.specs.List.{filter, enumerate_from}
use Rattle.std.proofs.lemmas.List.Elements.{All-filter, All-map}
use Rattle.std.proofs.lemmas.List.FromFn.{length-enumerate_from, get_or-enumerate_from}
use Rattle.scan_model.specs.declared.fault.Fault.{Fault}
use Rattle.scan_model.specs.declared.logs.LogFacts.{LogFacts}
use Rattle.scan_model.specs.ScanTest.{ScanTest}
use Rattle.scan_model.specs.Universe.{universe}
use Rattle.slat_view.specs.Slat.{fits, fitting_places}

numbers_below : {X : Type 0} (xs : List X) → All (λ (e : ℕ × X). e.0 < length xs) (enumerate_from 0 xs)
numbers_below xs k d lt =
    let inside : k < length xs = omega (arith, lt, length-enumerate_from 0 xs) in
    rw (get_or-enumerate_from 0 xs k d inside) (omega (arith, inside))

pub places_below : (t : ScanTest) (logs : List LogFacts) (w : ℕ) → All (λ p. p < length (universe t)) (fitting_places t logs w)
places_below t logs w =
    All-map (λ (p : ℕ). p < length (universe t)) (λ (e : ℕ × Fault). e.0) (filter (λ (e : ℕ × Fault). fits t logs w e.1) (enumerate_from 0 (universe t)))
    (All-filter (λ (e : ℕ × Fault). fits t logs w e.1) (λ (e : ℕ × Fault). e.0 < length (universe t)) (enumerate_from 0 (universe t)) (numbers_below (universe t)))
