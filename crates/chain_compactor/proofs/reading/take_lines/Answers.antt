use Rattle.std.proofs.Common.{◌≡◌, ◌≤◌, ◌-◌, length, arith, ap, ◌∙◌, sym, Ok, refl, map, []}
use Rattle.text_parts.specs.Views.{nows}
use Rattle.scan_model.specs.ScanTest.{ScanTest}
use Rattle.scan_model.proofs.PointCount.{outputs_few}
use Rattle.compact_points.specs.Channels.{cycles_of}
use Rattle.chain_compactor.specs.ChannelText.{channels_before, numbered}
use Rattle.chain_compactor.proofs.PointCount.{length-points_over}
use Rattle.chain_compactor.proofs.Sound.{none_sound, numbered_fit}
use Rattle.chain_compactor.proofs.ChannelLoop.{line_is_faulty, no_fault_more, after_more, sound_more, text_is_whole}
use Rattle.chain_compactor.proofs.reading.take_lines.Goals as goal

pub loop-i-init : goal.loop-i-init
loop-i-init c =
    let t : ScanTest = c.args.parts.now in
    let all : length (nows c.args.lines.now) - 0 ≡ length (nows c.args.lines.now) = omega arith in
    record {
      no_fault_yet = rw all refl;
      after = c.requires.after;
      sound = none_sound t (omega (arith, length-points_over (length t.netlist.outputs) [], outputs_few t.netlist c.chains.ensures.fits.circuit));
    }

pub returns-in-Some-clause-reading : goal.returns-in-Some-clause-reading
returns-in-Some-clause-reading c =
    line_is_faulty c.args.parts.now (nows c.args.lines.now) c.args.lines.now c.loop-i.i _ c.loop-i.channels c.as_slice-chains.result.now c.args.names.now (c.as_slice-chains.ensures ∙ c.chains.ensures.value) c.requires.names
    refl c.loop-i.invariant.no_fault_yet c.loop-i.invariant.after c.in-Some.rule c.loop-i-test.true (sym c.in-Some.is ∙ c.in_ok-rule.ensures.rule)

pub loop-i-preserved : goal.loop-i-preserved
loop-i-preserved c =
    let none = sym c.in_default.is ∙ c.in_ok-rule.ensures.rule in
    let taken = c.take_line.ensures.taken (c.in_ok-rule.was ∙ ap Ok c.in_default.is) in
    let chains_are = c.as_slice-chains.ensures ∙ c.chains.ensures.value in
    record {
      no_fault_yet = no_fault_more c.args.parts.now (nows c.args.lines.now) c.args.lines.now c.loop-i.i _ c.loop-i.channels c.as_slice-chains.result.now c.args.names.now chains_are c.requires.names refl c.loop-i.invariant.no_fault_yet c.loop-i.invariant.after c.loop-i-test.true none;
      after = after_more c.args.parts.now (nows c.args.lines.now) c.args.lines.now c.loop-i.i _ c.loop-i.channels c.as_slice-chains.result.now c.args.names.now chains_are c.requires.names refl c.loop-i.invariant.no_fault_yet c.loop-i.invariant.after c.take_line.new.self c.loop-i-test.true taken;
      sound = sound_more c.args.parts.now (nows c.args.lines.now) c.args.lines.now c.loop-i.i _ c.loop-i.channels c.as_slice-chains.result.now c.args.names.now chains_are c.requires.names refl c.loop-i.invariant.no_fault_yet c.loop-i.invariant.after c.loop-i-test.true none c.loop-i.invariant.sound;
    }

pub returns-clause-reading : goal.returns-clause-reading
returns-clause-reading c =
    let past : length c.args.lines.now ≤ c.loop-i.i = omega (arith, c.loop-i-test.false) in
    text_is_whole c.args.parts.now (nows c.args.lines.now) c.args.lines.now c.loop-i.i (record { ref_ptr = (0, 0); now = [] }) c.loop-i.channels c.as_slice-chains.result.now c.args.names.now (c.as_slice-chains.ensures ∙ c.chains.ensures.value) c.requires.names
    refl c.loop-i.invariant.no_fault_yet c.loop-i.invariant.after past

pub returns-clause-kept : goal.returns-clause-kept
returns-clause-kept c =
    let t : ScanTest = c.args.parts.now in
    let xs = channels_before (nows c.args.lines.now) c.loop-i.i in
    let are : c.loop-i.channels.channels.items ≡ map (numbered t) xs = c.loop-i.invariant.after.channels in
    record {
      channels = rw are (numbered_fit t xs c.loop-i.invariant.sound);
      cycles = c.loop-i.invariant.after.cycles ∙ ap (map (cycles_of t)) (sym are);
      few = rw are c.loop-i.invariant.sound.few_points;
    }
