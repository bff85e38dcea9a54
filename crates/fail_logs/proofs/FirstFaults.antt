-- A log's fault is the first by the rules that its lines break.
use Rattle.std.proofs.Common.{◌≡◌, ℕ, ◌+◌, List, length, None, Err}
use Rattle.scan_model.specs.declared.logs.LogFacts.{LogFacts}
use Rattle.scan_model.specs.Lines.{text_lines}
use Rattle.scan_model.specs.TextFaults.{HasNoFault, IsFirstFault, refused_or}
use Rattle.scan_model.specs.LogText.{LogFrame, log_rule, log_breaks, log_fault}
use Rattle.scan_model.proofs.FirstFaults.{has_none, is_first}
use Rattle.scan_model.proofs.TextRules.{log_lowest}
use Rattle.text_parts.specs.declared.fault.ReadFault.{ReadFault}
use Rattle.text_parts.specs.ReadResults.{Fails, IfFault}
use Rattle.text_parts.proofs.FirstFaults.{judged_first}

module _ (frame : LogFrame) (bytes : List ℕ) where
  -- a fault that reading anything of the text gives
  pub log_first : {Y : Type 0} (value : Y) (e : ReadFault) → Fails e (refused_or (log_fault frame bytes) value) → IfFault {X = LogFacts} (Err e) (IsFirstFault (log_breaks frame (text_lines bytes)) (length (text_lines bytes) + 1))
  log_first {Y} value e fails =
      judged_first {X = LogFacts} {Y = Y} (λ log. value) value (log_fault frame bytes)
      (IsFirstFault (log_breaks frame (text_lines bytes)) (length (text_lines bytes) + 1))
      (is_first (log_rule frame (text_lines bytes)) (log_breaks frame (text_lines bytes)) (log_lowest frame (text_lines bytes)) (length (text_lines bytes) + 1))
      (Err e) fails

  pub log_none : log_fault frame bytes ≡ None → HasNoFault (log_breaks frame (text_lines bytes)) (length (text_lines bytes) + 1)
  log_none none = has_none (log_rule frame (text_lines bytes)) (log_breaks frame (text_lines bytes)) (log_lowest frame (text_lines bytes)) (length (text_lines bytes) + 1) none
