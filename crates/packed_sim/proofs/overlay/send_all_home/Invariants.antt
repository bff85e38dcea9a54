use Rattle.std.proofs.Common.{◌≡◌, ◌<◌, ℕ, length, get_or}
use Rattle.packed_sim.proofs.overlay.send_all_home.Given as goal

abbrev pub invariant-loop-net : goal.invariant-loop-net
invariant-loop-net l = record {
  len : length l.places ≡ length l.fn.places;
  home : (n : ℕ) → n < l.net → get_or l.places n 0 ≡ n;
}
