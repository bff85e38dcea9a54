-- A netlist's fault is the first in the rounds, by the rules that its lines break.
use Rattle.std.proofs.Common.{◌≡◌, ℕ, List, length, Option, Some, None, Result, Err, refl, ap, ◌∙◌}
use Rattle.std.specs.Prelude.{IfOk}
use Rattle.scan_model.specs.Netlist.{Netlist}
use Rattle.scan_model.specs.Lines.{text_lines}
use Rattle.scan_model.specs.TextFaults.{HasNoFault, IsFirstInRounds, or_else, first_fault, refused_or}
use Rattle.scan_model.specs.NetlistRules.{early_fault}
use Rattle.scan_model.specs.NetlistText.{netlist_breaks, netlist_rounds, third_rule, netlist_fault, netlist_reading, circuit_of}
use Rattle.scan_model.proofs.TextRules.{netlist_first, netlist_none}
use Rattle.text_parts.specs.declared.fault.ReadFault.{ReadFault}
use Rattle.text_parts.specs.declared.fault.ReadFault.TheVariants.{Text, NoMemory}
use Rattle.text_parts.specs.ReadResults.{Fails, Gives, IfFault}
use Rattle.text_parts.proofs.FirstFaults.{judged_first, judged_none}

module _ (bytes : List ℕ) (result : Result Netlist ReadFault) (gives : Gives (λ c. c) result (netlist_reading bytes)) where
  pub reads_first : IfFault result (IsFirstInRounds netlist_rounds (netlist_breaks (text_lines bytes)) (length (text_lines bytes)))
  reads_first =
      judged_first (λ (c : Netlist). c) (circuit_of bytes) (netlist_fault bytes)
      (IsFirstInRounds netlist_rounds (netlist_breaks (text_lines bytes)) (length (text_lines bytes)))
      (netlist_first (text_lines bytes)) result gives

  pub reads_none : IfOk result (λ c. HasNoFault (netlist_breaks (text_lines bytes)) (length (text_lines bytes)))
  reads_none =
      judged_none (λ (c : Netlist). c) (circuit_of bytes) (netlist_fault bytes)
      (HasNoFault (netlist_breaks (text_lines bytes)) (length (text_lines bytes)))
      (netlist_none (text_lines bytes)) result gives

-- a fault of the first two rounds is the netlist's
early_is : (bytes : List ℕ) (f : ℕ × ℕ) → refused_or (early_fault (text_lines bytes)) (circuit_of bytes) ≡ Err f → netlist_reading bytes ≡ Err f
early_is bytes f e = go (early_fault (text_lines bytes)) refl e
  where
    go : (o : Option (ℕ × ℕ)) → early_fault (text_lines bytes) ≡ o → refused_or o (circuit_of bytes) ≡ Err f → netlist_reading bytes ≡ Err f
    go None is refused = absurd cc
    go (Some g) is refused = ap (λ (o : Option (ℕ × ℕ)). refused_or (or_else o (first_fault (third_rule (text_lines bytes)) (length (text_lines bytes)))) (circuit_of bytes)) is ∙ refused

pub early_first : (bytes : List ℕ) (e : ReadFault) → Fails e (refused_or (early_fault (text_lines bytes)) (circuit_of bytes))
    → IfFault {X = Netlist} (Err e) (IsFirstInRounds netlist_rounds (netlist_breaks (text_lines bytes)) (length (text_lines bytes)))
early_first bytes (Text f) fails = reads_first bytes (Err (Text f)) (early_is bytes (f.line, f.rule) fails)
early_first bytes NoMemory fails = tt
