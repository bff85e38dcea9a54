-- The neighbours that the generator makes: gate 50 of each block beside that of the next.
use Rattle.std.specs.Prelude.{ℕ, ◌+◌, ◌-◌, List, ◌++◌, flat_map, codes}
use Rattle.std.specs.List.{range_with_len}
use Rattle.made_laws.specs.MadeNetlist.{gate_name}

abbrev pub pair_line : ℕ → List ℕ
pair_line b = gate_name b 50 ++ (codes "," ++ (gate_name (b + 1) 50 ++ codes "\n"))

abbrev pub made_pairs : ℕ → List ℕ
made_pairs blocks = codes "net_a,net_b\n" ++ flat_map pair_line (range_with_len 0 (blocks - 1))
