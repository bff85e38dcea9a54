use Rattle.std.proofs.Common.{◌≡◌, ℕ, ◌<◌, ◌++◌, false, map, take, drop}
use Rattle.std.specs.List.{list_any}
use Rattle.scan_model.specs.Values.{is_unknown, xor_of}
use Rattle.lane_rows.specs.Planes.{held}
use Rattle.compact_points.specs.Compaction.{cells_shown}
use Rattle.chain_compactor.proofs.changes.chains_changed.Given as goal

abbrev pub invariant-loop-chain : goal.invariant-loop-chain
invariant-loop-chain g l = (j : ℕ) → j < 512 → g.C.Changes.tells l.changes j → held l.fn.expected j ≡ xor_of (map (g.C.Changes.good l.changes j) (cells_shown l.parts l.cycle l.chains))
    → list_any is_unknown (map (g.C.Changes.good l.changes j) (cells_shown l.parts l.cycle l.chains)) ≡ false
    → held l.row j ≡ xor_of (map (g.C.Changes.shown l.changes j) (cells_shown l.parts l.cycle (take l.chain-index l.chains)) ++ map (g.C.Changes.good l.changes j) (cells_shown l.parts l.cycle (drop l.chain-index l.chains)))
