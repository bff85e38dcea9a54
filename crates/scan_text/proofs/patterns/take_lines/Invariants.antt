use Rattle.std.proofs.Common.{◌≡◌, ◌+◌, ◌-◌, false, length, take}
use Rattle.std.specs.Prelude.{All}
use Rattle.scan_model.specs.declared.parts.PatternKind.TheVariants.{Capture}
use Rattle.scan_model.specs.Netlist.{Netlist}
use Rattle.scan_model.specs.TextFaults.{fault_from, first_fault}
use Rattle.scan_model.specs.PatternText.{pattern_rule, patterns_of}
use Rattle.text_parts.specs.Views.{nows}
use Rattle.scan_text.specs.Frames.{frame_view}
use Rattle.scan_text.proofs.SoundPatterns.{AreSound}
use Rattle.scan_text.proofs.patterns.take_lines.Given as goal

abbrev pub invariant-loop-i : goal.invariant-loop-i
invariant-loop-i l =
    let ls = nows l.lines in
    let frame = frame_view l.frame in
    record {
      no_fault_yet : fault_from (pattern_rule frame ls) l.i ((length ls + 1) - l.i) ≡ first_fault (pattern_rule frame ls) (length ls + 1);
      after : l.patterns ≡ patterns_of frame (take l.i ls);
      sound : (c : Netlist) → length c.inputs ≡ l.frame.inputs → AreSound c l.frame.chains.now l.patterns;
      captures : l.frame.shifts ≡ false → All (λ w. w.kind ≡ Capture) l.patterns;
    }
