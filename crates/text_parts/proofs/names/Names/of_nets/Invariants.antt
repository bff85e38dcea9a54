use Rattle.std.proofs.Common.{◌≡◌, take}
use Rattle.scan_model.specs.ScanText.{net_names}
use Rattle.text_parts.proofs.names.Names.of_nets.Given as goal

abbrev pub invariant-loop-net : goal.invariant-loop-net
invariant-loop-net l = l.names ≡ net_names (take l.net-index l.nets)
