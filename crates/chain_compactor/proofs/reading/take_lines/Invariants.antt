use Rattle.std.proofs.Common.{◌≡◌, ◌-◌, length}
use Rattle.scan_model.specs.TextFaults.{fault_from, first_fault}
use Rattle.text_parts.specs.Views.{nows}
use Rattle.chain_compactor.specs.ChannelText.{channel_rule, channels_before}
use Rattle.chain_compactor.specs.ChannelReading.{IsAfter}
use Rattle.chain_compactor.proofs.Sound.{AreSound}
use Rattle.chain_compactor.proofs.reading.take_lines.Given as goal

abbrev pub invariant-loop-i : goal.invariant-loop-i
invariant-loop-i l =
    let ls = nows l.lines in
    record {
      no_fault_yet : fault_from (channel_rule l.parts ls) l.i (length ls - l.i) ≡ first_fault (channel_rule l.parts ls) (length ls);
      after : IsAfter l.parts l.channels (channels_before ls l.i);
      sound : AreSound l.parts (channels_before ls l.i);
    }
