-- LF at the end of a text changes nothing that the text stands for.
use Rattle.std.proofs.Common.{◌≡◌, ℕ, ◌+◌, List, length, Ok, ap, ◌∙◌}
use Rattle.scan_model.specs.declared.circuit.Net.{Net}
use Rattle.scan_model.specs.declared.parts.Chain.{Chain}
use Rattle.scan_model.specs.declared.parts.Pattern.{Pattern}
use Rattle.scan_model.specs.Netlist.{Netlist}
use Rattle.scan_model.specs.ScanTest.{ScanTest}
use Rattle.scan_model.specs.TextFaults.{or_else, first_fault, refused_or}
use Rattle.scan_model.specs.NetlistRules.{forms_of, early_fault}
use Rattle.scan_model.specs.NetlistText.{circuit_in, third_rule, netlist_reading}
use Rattle.scan_model.specs.ScanText.{scan_rule, chains_of, scan_reading}
use Rattle.scan_model.specs.PatternText.{PatternFrame, pattern_frame, pattern_rule, patterns_of, pattern_reading}
use Rattle.text_parts.specs.TextEnd.{ended}
use Rattle.design_bundle.specs.FourTexts.{FourTexts}
use Rattle.diagnosis.specs.Bundle.{texts_reading}
use Rattle.diagnosis.proofs.Ended.{ended_twice}
use Rattle.diagnosis.proofs.LastLine.{ended_lines}
use Rattle.diagnosis.proofs.AreRead.{are_read, read_whole}
use Rattle.diagnosis.proofs.Accepted.{netlist_accepted, scan_accepted, patterns_accepted}

-- the texts, each ended
abbrev pub ended_texts : FourTexts → FourTexts
ended_texts texts = record { profile = texts.profile; netlist = ended texts.netlist; scan = ended texts.scan; patterns = ended texts.patterns; neighbours = ended texts.neighbours }

netlist_ended : (text : List ℕ) (c : Netlist) → netlist_reading text ≡ Ok c → netlist_reading (ended text) ≡ Ok c
netlist_ended text c e =
    ap (λ ls. refused_or (or_else (early_fault ls) (first_fault (third_rule ls) (length ls))) (circuit_in (forms_of ls))) (ended_lines text (netlist_accepted text c e)) ∙ e

scan_ended : (nets : List Net) (text : List ℕ) (chains : List Chain) → scan_reading nets text ≡ Ok chains → scan_reading nets (ended text) ≡ Ok chains
scan_ended nets text chains e =
    ap (λ ls. refused_or (first_fault (scan_rule nets ls) (length ls)) (chains_of nets ls)) (ended_lines text (scan_accepted nets text chains e)) ∙ e

patterns_ended : (frame : PatternFrame) (text : List ℕ) (patterns : List Pattern) → pattern_reading frame text ≡ Ok patterns → pattern_reading frame (ended text) ≡ Ok patterns
patterns_ended frame text patterns e =
    ap (λ ls. refused_or (first_fault (pattern_rule frame ls) (length ls + 1)) (patterns_of frame ls)) (ended_lines text (patterns_accepted frame text patterns e)) ∙ e

-- ---- the four texts

pub ended_read : (texts : FourTexts) (t : ScanTest) → texts_reading texts ≡ Ok t → texts_reading (ended_texts texts) ≡ Ok t
ended_read texts t e =
    let r = are_read texts t e in
    read_whole (ended_texts texts) t (record {
      c = r.c;
      chains = r.chains;
      patterns = r.patterns;
      pairs = r.pairs;
      netlist_stands = netlist_ended texts.netlist r.c r.netlist_stands;
      scan_stands = scan_ended r.c.nets texts.scan r.chains r.scan_stands;
      patterns_stand = patterns_ended (pattern_frame r.c r.chains) texts.patterns r.patterns r.patterns_stand;
      neighbours_stand = rw (ended_twice texts.neighbours) r.neighbours_stand;
      whole = r.whole;
    })
