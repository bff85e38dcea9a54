use Rattle.std.proofs.Common.{◌≡◌, ◌++◌, ℕ}
use Rattle.std.specs.Prelude.{flat_map}
use Rattle.std.specs.List.{range_with_len}
use Rattle.made_laws.specs.Draws.{state_after}
use Rattle.made_laws.specs.MadeNetlist.{gate_draw, drawn_gate}
use Rattle.made_designs.proofs.netlist.push_gates.Given as goal

abbrev pub invariant-loop-gate : goal.invariant-loop-gate
invariant-loop-gate l = (seed : ℕ) → l.initial.draws.state ≡ state_after seed (gate_draw l.block 0)
    → (l.text ≡ l.initial.text ++ flat_map (drawn_gate seed l.block) (range_with_len 0 l.gate)) × (l.draws.state ≡ state_after seed (gate_draw l.block l.gate))
