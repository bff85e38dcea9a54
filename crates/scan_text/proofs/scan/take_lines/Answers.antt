use Rattle.std.proofs.Common.{◌≡◌, ◌≤◌, ◌-◌, length, arith, ap, ◌∙◌, sym, Ok, refl, map, []}
use Rattle.text_parts.specs.Views.{nows}
use Rattle.scan_model.specs.ScanText.{chains_before, numbered}
use Rattle.scan_text.proofs.ScanLoop.{line_is_faulty, no_fault_more, after_more, sound_more, text_is_whole}
use Rattle.scan_text.proofs.SoundChains.{AreSound, none_sound, numbered_fit}
use Rattle.scan_text.proofs.scan.take_lines.Goals as goal

pub loop-i-init : goal.loop-i-init
loop-i-init c =
    let all : length (nows c.args.lines.now) - 0 ≡ length (nows c.args.lines.now) = omega arith in
    record { no_fault_yet = rw all refl; after = c.requires.after; sound = none_sound c.args.nets.now }

pub returns-in-Some-clause-reading : goal.returns-in-Some-clause-reading
returns-in-Some-clause-reading c =
    line_is_faulty c.args.nets.now (nows c.args.lines.now) c.args.lines.now c.loop-i.i _ c.loop-i.chains refl c.loop-i.invariant.no_fault_yet c.loop-i.invariant.after c.in-Some.rule c.loop-i-test.true (sym c.in-Some.is ∙ c.in_ok-rule.ensures.rule)

pub loop-i-preserved : goal.loop-i-preserved
loop-i-preserved c =
    let none = sym c.in_default.is ∙ c.in_ok-rule.ensures.rule in
    let taken = c.take_line.ensures.taken (c.in_ok-rule.was ∙ ap Ok c.in_default.is) (chains_before (nows c.args.lines.now) c.loop-i.i) c.loop-i.invariant.after in
    record {
      no_fault_yet = no_fault_more c.args.nets.now (nows c.args.lines.now) c.args.lines.now c.loop-i.i _ c.loop-i.chains refl c.loop-i.invariant.no_fault_yet c.loop-i.invariant.after c.loop-i-test.true none;
      after = after_more c.args.nets.now (nows c.args.lines.now) c.args.lines.now c.loop-i.i _ c.loop-i.chains refl c.loop-i.invariant.no_fault_yet c.loop-i.invariant.after c.take_line.new.self c.loop-i-test.true taken;
      sound = sound_more c.args.nets.now (nows c.args.lines.now) c.args.lines.now c.loop-i.i _ c.loop-i.chains refl c.loop-i.invariant.no_fault_yet c.loop-i.invariant.after c.loop-i-test.true none c.loop-i.invariant.sound;
    }

pub returns-clause-reading : goal.returns-clause-reading
returns-clause-reading c =
    let past : length c.args.lines.now ≤ c.loop-i.i = omega (arith, c.loop-i-test.false) in
    text_is_whole c.args.nets.now (nows c.args.lines.now) c.args.lines.now c.loop-i.i (record { ref_ptr = (0, 0); now = [] }) c.loop-i.chains refl c.loop-i.invariant.no_fault_yet c.loop-i.invariant.after past

pub returns-clause-fits : goal.returns-clause-fits
returns-clause-fits c = λ k same.
    let ls = nows c.args.lines.now in
    let sound : AreSound k.nets (chains_before ls c.loop-i.i) = rw same c.loop-i.invariant.sound in
    let value : c.loop-i.chains.chains.items ≡ map (numbered k.nets) (chains_before ls c.loop-i.i) = rw same c.loop-i.invariant.after.chains in
    rw value (numbered_fit k (chains_before ls c.loop-i.i) sound)
