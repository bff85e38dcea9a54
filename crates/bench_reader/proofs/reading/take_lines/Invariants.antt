use Rattle.std.proofs.Common.{◌≡◌, ◌-◌, length, take}
use Rattle.scan_model.specs.TextFaults.{fault_from, first_fault}
use Rattle.scan_model.specs.NetlistRules.{forms_of, first_rule}
use Rattle.text_parts.specs.Views.{nows}
use Rattle.bench_reader.specs.FaultlessLines.{IsRead}
use Rattle.bench_reader.proofs.reading.take_lines.Given as goal

abbrev pub invariant-loop-i : goal.invariant-loop-i
invariant-loop-i l =
    let ls = nows l.texts in
    record {
      no_fault_yet : fault_from (first_rule ls) l.i (length ls - l.i) ≡ first_fault (first_rule ls) (length ls);
      read : IsRead l.draft (forms_of (take l.i ls));
    }
