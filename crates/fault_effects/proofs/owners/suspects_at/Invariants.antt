use Rattle.std.proofs.Common.{◌≡◌, ◌<◌, ◌≤◌, length, take}
use Rattle.std.specs.Prelude.{All}
use Rattle.scan_model.specs.Universe.{universe}
use Rattle.fault_effects.specs.Owners.{IsSuspectOf, places_of}
use Rattle.fault_effects.proofs.owners.suspects_at.Given as goal

abbrev pub invariant-loop-place : goal.invariant-loop-place
invariant-loop-place l = record {
  each : All (IsSuspectOf l.parts) l.suspects;
  few : length l.suspects ≤ l.place-index;
  places : All (λ p. p < length (universe l.parts)) l.places → places_of l.suspects ≡ take l.place-index l.places;
}
