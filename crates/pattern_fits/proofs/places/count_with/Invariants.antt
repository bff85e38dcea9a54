use Rattle.std.proofs.Common.{◌≡◌, ◌≤◌, length, take}
use Rattle.pattern_fits.specs.FitPlaces.{places_in}
use Rattle.pattern_fits.proofs.places.count_with.Given as goal

abbrev pub invariant-loop-fit : goal.invariant-loop-fit
invariant-loop-fit l = record {
  count : l.count ≡ length (places_in (take l.fit-index l.fits) l.j);
  few : l.count ≤ l.fit-index;
}
