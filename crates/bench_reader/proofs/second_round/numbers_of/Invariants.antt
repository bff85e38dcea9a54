use Rattle.std.proofs.Common.{◌≡◌, map, take}
use Rattle.scan_model.specs.NetlistText.{net_number}
use Rattle.text_parts.specs.Views.{nows}
use Rattle.bench_reader.proofs.second_round.numbers_of.Given as goal

abbrev pub invariant-loop-name : goal.invariant-loop-name
invariant-loop-name l = l.numbers ≡ map (net_number l.defined) (nows (take l.name-index l.names))
