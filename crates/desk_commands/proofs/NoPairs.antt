-- A test without neighbours.
use Rattle.std.proofs.Common.{◌<◌, length, arith}
use Rattle.std.specs.List.{IsDistinct}
use Rattle.std.proofs.lemmas.List.Elements.{All-nil}
use Rattle.scan_model.specs.Netlist.{Netlist}
use Rattle.scan_model.specs.declared.parts.Pair.{Pair}
use Rattle.scan_model.specs.ScanTest.{ArePairs, IsNoFeedback}
use Rattle.desk_commands.specs.Views.{no_pairs}

pub no_pairs_fit : (c : Netlist) → ArePairs c no_pairs
unfolding IsDistinct
no_pairs_fit c =
    let Named : Pair → Type 0 = λ p. (p.a < length c.nets) × (p.b < length c.nets) in
    record { kept_nets = All-nil Named; left_out_nets = All-nil Named; differ = tt; no_feedback = All-nil (IsNoFeedback c); few = omega arith }
