-- A scan text's fault, and a pattern text's, is the first by the rules that its lines break.
use Rattle.std.proofs.Common.{ℕ, ◌+◌, List, length, Result}
use Rattle.std.specs.Prelude.{IfOk}
use Rattle.scan_model.specs.declared.circuit.Net.{Net}
use Rattle.scan_model.specs.declared.parts.Chain.{Chain}
use Rattle.scan_model.specs.declared.parts.Pattern.{Pattern}
use Rattle.scan_model.specs.Lines.{text_lines}
use Rattle.scan_model.specs.TextFaults.{HasNoFault, IsFirstFault}
use Rattle.scan_model.specs.ScanText.{scan_rule, scan_breaks, scan_fault, scan_reading, chains_of}
use Rattle.scan_model.specs.PatternText.{PatternFrame, pattern_rule, pattern_breaks, pattern_fault, pattern_reading, patterns_of}
use Rattle.scan_model.proofs.FirstFaults.{has_none, is_first}
use Rattle.scan_model.proofs.TextRules.{scan_lowest, pattern_lowest}
use Rattle.text_parts.specs.declared.fault.ReadFault.{ReadFault}
use Rattle.text_parts.specs.ReadResults.{Gives, IfFault}
use Rattle.text_parts.proofs.FirstFaults.{judged_first, judged_none}

module _ {X : Type 0} (view : X → List Chain) (nets : List Net) (bytes : List ℕ) (result : Result X ReadFault) (gives : Gives view result (scan_reading nets bytes)) where
  pub scan_first : IfFault result (IsFirstFault (scan_breaks nets (text_lines bytes)) (length (text_lines bytes)))
  scan_first =
      judged_first view (chains_of nets (text_lines bytes)) (scan_fault nets bytes)
      (IsFirstFault (scan_breaks nets (text_lines bytes)) (length (text_lines bytes)))
      (is_first (scan_rule nets (text_lines bytes)) (scan_breaks nets (text_lines bytes)) (scan_lowest nets (text_lines bytes)) (length (text_lines bytes)))
      result gives

  pub scan_none : IfOk result (λ x. HasNoFault (scan_breaks nets (text_lines bytes)) (length (text_lines bytes)))
  scan_none =
      judged_none view (chains_of nets (text_lines bytes)) (scan_fault nets bytes)
      (HasNoFault (scan_breaks nets (text_lines bytes)) (length (text_lines bytes)))
      (has_none (scan_rule nets (text_lines bytes)) (scan_breaks nets (text_lines bytes)) (scan_lowest nets (text_lines bytes)) (length (text_lines bytes)))
      result gives

module _ {X : Type 0} (view : X → List Pattern) (frame : PatternFrame) (bytes : List ℕ) (result : Result X ReadFault) (gives : Gives view result (pattern_reading frame bytes)) where
  pub pattern_first : IfFault result (IsFirstFault (pattern_breaks frame (text_lines bytes)) (length (text_lines bytes) + 1))
  pattern_first =
      judged_first view (patterns_of frame (text_lines bytes)) (pattern_fault frame bytes)
      (IsFirstFault (pattern_breaks frame (text_lines bytes)) (length (text_lines bytes) + 1))
      (is_first (pattern_rule frame (text_lines bytes)) (pattern_breaks frame (text_lines bytes)) (pattern_lowest frame (text_lines bytes)) (length (text_lines bytes) + 1))
      result gives

  pub pattern_none : IfOk result (λ x. HasNoFault (pattern_breaks frame (text_lines bytes)) (length (text_lines bytes) + 1))
  pattern_none =
      judged_none view (patterns_of frame (text_lines bytes)) (pattern_fault frame bytes)
      (HasNoFault (pattern_breaks frame (text_lines bytes)) (length (text_lines bytes) + 1))
      (has_none (pattern_rule frame (text_lines bytes)) (pattern_breaks frame (text_lines bytes)) (pattern_lowest frame (text_lines bytes)) (length (text_lines bytes) + 1))
      result gives
