use Rattle.std.proofs.Common.{◌≡◌, ℕ, ◌<◌, true, length, get_or}
use Rattle.scan_model.specs.Marks.{is_marked}
use Rattle.lane_rows.proofs.wiring.write_places.Given as goal

abbrev pub invariant-loop-k : goal.invariant-loop-k
invariant-loop-k l = record {
  live : (i : ℕ) → i < l.k → is_marked l.marks (get_or l.order i 0) ≡ true → get_or l.places (get_or l.order i 0) 0 ≡ i;
  only : (n : ℕ) → n < length l.places → get_or l.places n 0 < length l.order → get_or l.order (get_or l.places n 0) 0 ≡ n;
}
