use Rattle.std.proofs.Common.{◌≡◌, ◌-◌, length}
use Rattle.scan_model.specs.TextFaults.{fault_from, first_fault}
use Rattle.scan_model.specs.ScanText.{scan_rule, chains_before}
use Rattle.text_parts.specs.Views.{nows}
use Rattle.scan_text.specs.ScanDrafts.{IsAfter}
use Rattle.scan_text.proofs.SoundChains.{AreSound}
use Rattle.scan_text.proofs.scan.take_lines.Given as goal

abbrev pub invariant-loop-i : goal.invariant-loop-i
invariant-loop-i l =
    let ls = nows l.lines in
    record {
      no_fault_yet : fault_from (scan_rule l.nets ls) l.i (length ls - l.i) ≡ first_fault (scan_rule l.nets ls) (length ls);
      after : IsAfter l.nets l.chains (chains_before ls l.i);
      sound : AreSound l.nets (chains_before ls l.i);
    }
