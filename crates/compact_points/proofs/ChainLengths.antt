-- How long a chain is at most.
use Rattle.std.proofs.Common.{ℕ, zero, suc, ◌<◌, ◌≤◌, List, [], ◌∷◌, length, get_or, arith}
use Rattle.scan_model.specs.declared.parts.Chain.{Chain}
use Rattle.scan_model.specs.ScanTest.{ScanTest, IsScanTest, no_chain, longest}
use Rattle.scan_model.proofs.PointCount.{longest_few}
use Rattle.compact_points.specs.Channels.{chain_length}

none_longer : (cs : List Chain) (j : ℕ) → j < length cs → length (get_or cs j no_chain).cells ≤ longest cs
none_longer [] j lt = absurd (omega arith)
none_longer (c ∷ cs) zero lt = omega arith
none_longer (c ∷ cs) (suc j) lt = omega (arith, none_longer cs j (omega arith))

pub few_cells : (t : ScanTest) → IsScanTest t → (h : ℕ) → h < length t.chains → chain_length t h ≤ 65536
few_cells t sound h lt = omega (arith, none_longer t.chains h lt, longest_few t.netlist t.chains sound.circuit sound.chains)
