-- A channel text's fault is the first by the rules that its lines break.
use Rattle.std.proofs.Common.{ℕ, List, length, Result, refl}
use Rattle.std.specs.Prelude.{IfOk}
use Rattle.scan_model.specs.Lines.{text_lines}
use Rattle.scan_model.specs.ScanTest.{ScanTest}
use Rattle.scan_model.specs.TextFaults.{HasNoFault, IsFirstFault}
use Rattle.scan_model.proofs.FirstFaults.{IsLowest, lowest_is, has_none, is_first}
use Rattle.text_parts.specs.declared.fault.ReadFault.{ReadFault}
use Rattle.text_parts.specs.ReadResults.{Gives, IfFault}
use Rattle.text_parts.proofs.FirstFaults.{judged_first, judged_none}
use Rattle.compact_points.specs.Channels.{Compactor}
use Rattle.chain_compactor.specs.ChannelText.{channel_table, channel_rule, channel_breaks, channel_fault, channel_reading, compactor_of_lines}

channel_lowest : (t : ScanTest) (ls : List (List ℕ)) (i : ℕ) → IsLowest (channel_breaks t ls i) (channel_rule t ls i)
channel_lowest t ls i = lowest_is (channel_table t ls i) refl

module _ {X : Type 0} (view : X → Compactor) (t : ScanTest) (bytes : List ℕ) (result : Result X ReadFault) (gives : Gives view result (channel_reading t bytes)) where
  pub channels_first : IfFault result (IsFirstFault (channel_breaks t (text_lines bytes)) (length (text_lines bytes)))
  channels_first =
      judged_first view (compactor_of_lines t (text_lines bytes)) (channel_fault t bytes)
      (IsFirstFault (channel_breaks t (text_lines bytes)) (length (text_lines bytes)))
      (is_first (channel_rule t (text_lines bytes)) (channel_breaks t (text_lines bytes)) (channel_lowest t (text_lines bytes)) (length (text_lines bytes)))
      result gives

  pub channels_none : IfOk result (λ x. HasNoFault (channel_breaks t (text_lines bytes)) (length (text_lines bytes)))
  channels_none =
      judged_none view (compactor_of_lines t (text_lines bytes)) (channel_fault t bytes)
      (HasNoFault (channel_breaks t (text_lines bytes)) (length (text_lines bytes)))
      (has_none (channel_rule t (text_lines bytes)) (channel_breaks t (text_lines bytes)) (channel_lowest t (text_lines bytes)) (length (text_lines bytes)))
      result gives
