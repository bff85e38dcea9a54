use Rattle.std.proofs.Common.{◌≡◌, ℕ, ◌+◌, ◌*◌, min, ◌++◌, flat_map}
use Rattle.std.specs.List.{range_with_len}
use Rattle.made_laws.specs.Draws.{state_after}
use Rattle.made_laws.specs.MadePatterns.{load_word}
use Rattle.made_designs.proofs.patterns.push_loads.Given as goal

abbrev pub invariant-loop-chain : goal.invariant-loop-chain
invariant-loop-chain l = (seed i : ℕ) → l.fn.draws.state ≡ state_after seed i
    → (l.draws.state ≡ state_after seed (i + 5 * min (25 * l.chain) l.blocks)) × (l.text ≡ l.fn.text ++ flat_map (load_word seed l.blocks i) (range_with_len 0 l.chain))
