use Rattle.std.proofs.Common.{◌≡◌, ℕ, ◌<◌, ◌≤◌, true, get_or}
use Rattle.std.specs.Prelude.{Contains}
use Rattle.place_sets.specs.Places.{has_place, room}
use Rattle.packed_sim.proofs.made.set_of.Given as goal

abbrev pub invariant-loop-net : goal.invariant-loop-net
invariant-loop-net l = record {
  wide : l.nets ≤ room l.set;
  all : (k : ℕ) → k < l.net-index → has_place l.set (get_or l.listed k 0) ≡ true;
  only : (n : ℕ) → has_place l.set n ≡ true → Contains l.listed n;
}
