use Rattle.std.proofs.Common.{◌≡◌}
use Rattle.std.specs.Prelude.{filter}
use Rattle.std.specs.List.{range_with_len}
use Rattle.scan_model.specs.Netlist.{is_branch}
use Rattle.scan_model.specs.GateSearch.{wiring}
use Rattle.scan_model.proofs.branches.branch_pins.Given as goal

abbrev pub invariant-loop-p : goal.invariant-loop-p
invariant-loop-p l = l.found ≡ filter (is_branch (wiring l.nets l.pins)) (range_with_len 0 l.p)
