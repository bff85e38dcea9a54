use Rattle.std.proofs.Common.{◌≡◌, ℕ, ◌+◌, length, take}
use Rattle.made_laws.specs.Draws.{state_after}
use Rattle.made_laws.specs.MadePatterns.{drawn_digits}
use Rattle.made_designs.proofs.patterns.write_digits.Given as goal

abbrev pub invariant-loop-place : goal.invariant-loop-place
invariant-loop-place l = record {
  len : length l.digits ≡ length l.fn.digits;
  state : (seed i : ℕ) → l.fn.draws.state ≡ state_after seed i → l.draws.state ≡ state_after seed (i + l.place);
  digits : (seed i : ℕ) → l.fn.draws.state ≡ state_after seed i → take l.place l.digits ≡ drawn_digits seed i l.place;
}
