use Rattle.std.proofs.Common.{◌≡◌, take}
use Rattle.pattern_fits.specs.FitPlaces.{places_in}
use Rattle.pattern_fits.proofs.places.places_with.Given as goal

abbrev pub invariant-loop-fit : goal.invariant-loop-fit
invariant-loop-fit l = l.places ≡ places_in (take l.fit-index l.fits) l.j
