use Rattle.std.proofs.Common.{◌≡◌, ◌++◌, ℕ}
use Rattle.std.specs.Prelude.{flat_map}
use Rattle.std.specs.List.{range_with_len}
use Rattle.made_laws.specs.Draws.{state_after}
use Rattle.made_laws.specs.MadeNetlist.{block_cells, block_gates, gate_draw}
use Rattle.made_designs.proofs.netlist.push_blocks.Given as goal

abbrev pub invariant-loop-block : goal.invariant-loop-block
invariant-loop-block l = (seed : ℕ) → l.initial.draws.state ≡ seed
    → (l.text ≡ l.initial.text ++ flat_map (λ b. block_cells b ++ block_gates seed b) (range_with_len 0 l.block)) × (l.draws.state ≡ state_after seed (gate_draw l.block 0))
