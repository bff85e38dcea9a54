use Rattle.std.proofs.Common.{◌≡◌, ℕ, ◌*◌}
use Rattle.std.specs.Prelude.{flat_map}
use Rattle.std.specs.List.{range_with_len}
use Rattle.made_laws.specs.Draws.{state_after}
use Rattle.made_laws.specs.MadePatterns.{pattern_line, first_draw}
use Rattle.made_designs.proofs.patterns.first_patterns.Given as goal

abbrev pub invariant-loop-pattern : goal.invariant-loop-pattern
invariant-loop-pattern l = (seed : ℕ) → l.fn.draws.state ≡ state_after seed (300 * l.blocks)
    → (l.draws.state ≡ state_after seed (first_draw l.blocks l.pattern)) × (l.text ≡ flat_map (pattern_line seed l.blocks) (range_with_len 0 l.pattern))
