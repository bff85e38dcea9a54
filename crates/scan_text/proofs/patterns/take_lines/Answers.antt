use Rattle.std.proofs.Common.{ap, ◌∙◌, sym, refl, Ok, [], get_or}
use Rattle.text_parts.specs.Views.{nows}
use Rattle.scan_text.specs.Frames.{frame_view}
use Rattle.scan_text.proofs.SoundPatterns.{line_more, capture_more}
use Rattle.scan_text.proofs.PatternLoop.{line_is_faulty, no_fault_more, after_more}
use Rattle.scan_text.proofs.patterns.take_lines.Goals as goal

pub returns-in-Some-clause-reading : goal.returns-in-Some-clause-reading
returns-in-Some-clause-reading c =
    line_is_faulty (frame_view c.args.frame.now) (nows c.args.lines.now) c.args.lines.now c.loop-i.i _ c.loop-i.patterns refl c.loop-i.invariant.no_fault_yet c.loop-i.invariant.after c.in-Some.rule c.loop-i-test.true (sym c.in-Some.is ∙ c.in_ok-rule.ensures.rule)

pub loop-i-preserved : goal.loop-i-preserved
loop-i-preserved c =
    let frame = frame_view c.args.frame.now in
    let items = c.args.lines.now in
    let none = sym c.in_default.is ∙ c.in_ok-rule.ensures.rule in
    let taken = c.take_line.ensures.taken (c.in_ok-rule.was ∙ ap Ok c.in_default.is) in
    let line = (get_or items c.loop-i.i (record { ref_ptr = (0, 0); now = [] })).now in
    record {
      no_fault_yet = no_fault_more frame (nows c.args.lines.now) items c.loop-i.i _ c.loop-i.patterns refl c.loop-i.invariant.no_fault_yet c.loop-i.invariant.after c.loop-i-test.true none;
      after = taken ∙ after_more frame (nows c.args.lines.now) items c.loop-i.i _ c.loop-i.patterns refl c.loop-i.invariant.no_fault_yet c.loop-i.invariant.after c.loop-i-test.true;
      captures = λ never. rw taken (capture_more frame never c.loop-i.patterns line (c.loop-i.invariant.captures never) none);
      sound = λ k same. rw taken (line_more k c.args.frame.now.chains.now c.args.frame.now.keyword.now c.args.frame.now.shifts c.loop-i.patterns line (c.loop-i.invariant.sound k same) c.args.frame.now.inputs same none);
    }
