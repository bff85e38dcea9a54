use Rattle.std.proofs.Common.{ap, ◌∙◌, sym, refl, Ok, rules}
use Rattle.text_parts.specs.Views.{nows}
use Rattle.fail_logs.specs.Frames.{frame_view, places_view}
use Rattle.fail_logs.proofs.Loop.{line_is_faulty, no_fault_more, after_more}
use Rattle.fail_logs.proofs.reading.take_lines.Goals as goal

pub loop-i-init : goal.loop-i-init
loop-i-init c = record { no_fault_yet = search rules; after = c.requires.after }

pub returns-in-Some : goal.returns-in-Some
returns-in-Some c =
    line_is_faulty (frame_view c.args.frame.now) (places_view c.args.frame.now) (nows c.args.texts.now) c.args.texts.now c.loop-i.i _ c.loop-i.draft refl c.loop-i.invariant.no_fault_yet c.loop-i.invariant.after c.in-Some.rule c.loop-i-test.true (sym c.in-Some.is ∙ c.in_ok-rule.ensures.rule)

pub loop-i-preserved : goal.loop-i-preserved
loop-i-preserved c =
    let is_none = c.in_ok-rule.was ∙ ap Ok c.in_default.is in
    record {
      no_fault_yet = no_fault_more (frame_view c.args.frame.now) (places_view c.args.frame.now) (nows c.args.texts.now) c.args.texts.now c.loop-i.i _ c.loop-i.draft refl c.loop-i.invariant.no_fault_yet c.loop-i.invariant.after c.loop-i-test.true (sym c.in_default.is ∙ c.in_ok-rule.ensures.rule);
      after = after_more (frame_view c.args.frame.now) (places_view c.args.frame.now) (nows c.args.texts.now) c.args.texts.now c.loop-i.i _ c.loop-i.draft refl c.loop-i.invariant.no_fault_yet c.loop-i.invariant.after c.take_line.new.self c.loop-i-test.true (c.take_line.ensures.taken is_none);
    }
