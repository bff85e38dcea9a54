use Rattle.std.proofs.Common.{◌≡◌, ◌+◌, ◌-◌, length, take}
use Rattle.scan_model.specs.TextFaults.{fault_from, first_fault}
use Rattle.scan_model.specs.LogText.{log_rule}
use Rattle.text_parts.specs.Views.{nows}
use Rattle.fail_logs.specs.Frames.{frame_view, places_view}
use Rattle.fail_logs.specs.LogDrafts.{IsAfter}
use Rattle.fail_logs.proofs.reading.take_lines.Given as goal

abbrev pub invariant-loop-i : goal.invariant-loop-i
invariant-loop-i l =
    let ls = nows l.texts in
    record {
      no_fault_yet : fault_from (log_rule (frame_view l.frame) ls) l.i ((length ls + 1) - l.i) ≡ first_fault (log_rule (frame_view l.frame) ls) (length ls + 1);
      after : IsAfter (frame_view l.frame) (places_view l.frame) l.draft (take l.i ls);
    }
