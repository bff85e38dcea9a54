-- Gates drawn one after another.
use Rattle.std.proofs.Common.{◌≡◌, ℕ, ◌+◌, ◌%◌, List, ◌++◌, refl, ap, ◌∙◌, add-one, arith}
use Rattle.std.specs.Prelude.{flat_map}
use Rattle.std.specs.List.{range_with_len}
use Rattle.made_laws.specs.Draws.{next_state, state_after, upper, draw}
use Rattle.made_laws.specs.MadeNetlist.{gate_line, gate_draw, drawn_gate, block_gates}

-- a number drawn, and the state after it
pub drawn : (seed i j m before after number : ℕ) → i + 1 ≡ j → before ≡ state_after seed i → after ≡ next_state before → number ≡ upper after % m
    → (after ≡ state_after seed j) × (number ≡ draw seed i m)
drawn seed i j m before after number is_next at next is =
    let there : after ≡ state_after seed (i + 1) = rw add-one (next ∙ ap next_state at) in
    (there ∙ ap (state_after seed) is_next, is ∙ ap (λ (s : ℕ). upper s % m) there)

-- a gate of the numbers that are drawn
pub gate_is : (seed b k w u v : ℕ) → w ≡ draw seed (gate_draw b k) 6 → u ≡ draw seed (gate_draw b k + 1) (15 + k) → v ≡ draw seed (gate_draw b k + 2) (15 + k)
    → gate_line b k w u v ≡ drawn_gate seed b k
gate_is seed b k w u v is_w is_u is_v = rw (is_w, is_u, is_v) refl

-- a hundred gates are those of a block
pub whole_block : (seed b k : ℕ) (text new : List ℕ) (state : ℕ) → k ≡ 100
    → (new ≡ text ++ flat_map (drawn_gate seed b) (range_with_len 0 k)) × (state ≡ state_after seed (gate_draw b k))
    → (new ≡ text ++ block_gates seed b) × (state ≡ state_after seed (gate_draw (b + 1) 0))
whole_block seed b k text new state is_whole is =
    let next : gate_draw b k ≡ gate_draw (b + 1) 0 = omega arith in
    (is.0 ∙ ap (λ (n : ℕ). text ++ flat_map (drawn_gate seed b) (range_with_len 0 n)) is_whole, is.1 ∙ ap (state_after seed) next)
