-- Numbers drawn one after another from a state that starts as a seed. Draws are counted from 0.
use Rattle.std.specs.Prelude.{ℕ, zero, suc, ◌+◌, ◌*◌, ◌/◌, ◌%◌, ◌^◌}

-- the state after one more draw
abbrev pub next_state : ℕ → ℕ
next_state x = (x * 6364136223846793005 + 1442695040888963407) % 2 ^ 64

-- the state after so many draws
abbrev pub state_after : ℕ → ℕ → ℕ
state_after seed zero = seed
state_after seed (suc n) = next_state (state_after seed n)

-- the upper 32 bits of a state
abbrev pub upper : ℕ → ℕ
upper x = x / 2 ^ 32

-- draw number i, as a number below m
abbrev pub draw : ℕ → ℕ → ℕ → ℕ
draw seed i m = upper (state_after seed (i + 1)) % m
