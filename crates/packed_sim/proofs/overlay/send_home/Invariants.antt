use Rattle.std.proofs.Common.{◌≡◌, ℕ, length, take, get_or}
use Rattle.packed_sim.specs.Rows.{at_home}
use Rattle.packed_sim.proofs.overlay.send_home.Given as goal

abbrev pub invariant-loop-net : goal.invariant-loop-net
invariant-loop-net l = record {
  len : length l.places ≡ length l.fn.places;
  so_far : (n : ℕ) → get_or l.places n 0 ≡ at_home (take l.net-index l.nets) l.fn.places n;
}
