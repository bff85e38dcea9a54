use Rattle.std.proofs.Common.{◌≡◌, ◌++◌}
use Rattle.std.specs.Prelude.{flat_map}
use Rattle.std.specs.List.{range_with_len}
use Rattle.scan_model.specs.Universe.{stem_faults}
use Rattle.fault_universe.proofs.stems.push_stems.Given as goal

abbrev pub invariant-loop-net : goal.invariant-loop-net
invariant-loop-net l = l.faults ≡ l.initial.faults ++ flat_map stem_faults (range_with_len 0 l.net)
