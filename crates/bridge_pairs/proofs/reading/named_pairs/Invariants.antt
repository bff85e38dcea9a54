use Rattle.std.proofs.Common.{◌≡◌, ◌-◌, length}
use Rattle.scan_model.specs.TextFaults.{fault_from}
use Rattle.bridge_pairs.specs.PairText.{records_in, pair_rule, pairs_fault, pairs_before}
use Rattle.bridge_pairs.specs.NamedPairs.{AreNamed}
use Rattle.bridge_pairs.proofs.reading.named_pairs.Given as goal

abbrev pub invariant-loop-i : goal.invariant-loop-i
invariant-loop-i l =
    let names = l.names in
    let rows = records_in l.bytes in
    record {
      no_fault_yet : fault_from (pair_rule names rows) l.i (length rows - l.i) ≡ pairs_fault names rows;
      after : l.named ≡ pairs_before names rows l.i;
      named : AreNamed (length names) l.named;
    }
