-- No line of the texts of a design begins with `%`.
use Rattle.std.proofs.Common.{◌≡◌, ℕ, false, List, length, sym, ap, ◌∙◌}
use Rattle.std.specs.Prelude.{All, Ok}
use Rattle.scan_model.specs.declared.circuit.Net.{Net}
use Rattle.scan_model.specs.declared.parts.Chain.{Chain}
use Rattle.scan_model.specs.declared.parts.Pattern.{Pattern}
use Rattle.scan_model.specs.declared.parts.Pairs.{Pairs}
use Rattle.scan_model.specs.Netlist.{Netlist}
use Rattle.scan_model.specs.ScanTest.{ScanTest}
use Rattle.scan_model.specs.Lines.{text_lines, pieces}
use Rattle.scan_model.specs.TextFaults.{first_fault}
use Rattle.scan_model.specs.NetlistRules.{first_rule, second_rule, early_fault}
use Rattle.scan_model.specs.NetlistText.{third_rule, netlist_fault, netlist_reading, circuit_of}
use Rattle.scan_model.specs.ScanText.{net_names, scan_fault, scan_reading, chains_of}
use Rattle.scan_model.specs.PatternText.{pattern_frame, pattern_fault, pattern_reading, patterns_of}
use Rattle.text_parts.specs.TextEnd.{ended}
use Rattle.bridge_pairs.specs.PairText.{records_in, pairs_in, pairs_fault, pairs_reading, parted}
use Rattle.design_bundle.specs.FourTexts.{FourTexts}
use Rattle.design_bundle.specs.Bundle.{is_mark}
use Rattle.diagnosis.specs.Bundle.{texts_reading}
use Rattle.diagnosis.proofs.LineMarks.{unmarked_pieces, plain_pieces}
use Rattle.diagnosis.proofs.MarkedLines.{unmarked_netlist, unmarked_scan, unmarked_patterns}
use Rattle.diagnosis.proofs.NetNames.{plain_net_names}
use Rattle.diagnosis.proofs.PairPercents.{records_in_percent, plain_records}
use Rattle.diagnosis.proofs.Percents.{some_field}
use Rattle.diagnosis.proofs.AreUnmarked.{AreUnmarked}
use Rattle.diagnosis.proofs.AreRead.{are_read}
use Rattle.diagnosis.proofs.NoFaults.{no_fault, neither}

-- ---- text by text

netlist_unmarked : (bytes : List ℕ) (c : Netlist) → netlist_reading bytes ≡ Ok c → All (λ piece. is_mark piece ≡ false) (pieces (ended bytes))
netlist_unmarked bytes c e =
    let ls = text_lines bytes in
    let clean = (no_fault (netlist_fault bytes) (circuit_of bytes) c e).0 in
    let early = neither (early_fault ls) (first_fault (third_rule ls) (length ls)) clean in
    unmarked_pieces bytes (unmarked_netlist ls (neither (first_fault (first_rule ls) (length ls)) (first_fault (second_rule ls) (length ls)) early))

scan_unmarked : (nets : List Net) (bytes : List ℕ) (chains : List Chain) → scan_reading nets bytes ≡ Ok chains → All (λ piece. is_mark piece ≡ false) (pieces (ended bytes))
scan_unmarked nets bytes chains e =
    let clean = (no_fault (scan_fault nets bytes) (chains_of nets (text_lines bytes)) chains e).0 in
    unmarked_pieces bytes (unmarked_scan nets (text_lines bytes) clean)

patterns_unmarked : (c : Netlist) (chains : List Chain) (bytes : List ℕ) (patterns : List Pattern) → pattern_reading (pattern_frame c chains) bytes ≡ Ok patterns → All (λ piece. is_mark piece ≡ false) (pieces (ended bytes))
patterns_unmarked c chains bytes patterns e =
    let frame = pattern_frame c chains in
    let clean = (no_fault (pattern_fault frame bytes) (patterns_of frame (text_lines bytes)) patterns e).0 in
    unmarked_pieces bytes (unmarked_patterns c chains (text_lines bytes) clean)

neighbours_unmarked : (netlist bytes : List ℕ) (c : Netlist) (pairs : Pairs) → netlist_reading netlist ≡ Ok c → pairs_reading c bytes ≡ Ok pairs → All (λ piece. is_mark piece ≡ false) (pieces (ended bytes))
neighbours_unmarked netlist bytes c pairs read e =
    let names = net_names c.nets in
    let rows = records_in bytes in
    let circuit = (no_fault (netlist_fault netlist) (circuit_of netlist) c read).1 in
    let plain : some_field names ≡ false = ap (λ d. some_field (net_names d.nets)) (sym circuit) ∙ plain_net_names netlist in
    let clean = (no_fault (pairs_fault names rows) (parted c (pairs_in names rows)) pairs e).0 in
    plain_pieces (ended bytes) (sym (records_in_percent bytes) ∙ plain_records names plain rows clean)

-- ---- the four texts

pub unmarked : (texts : FourTexts) (t : ScanTest) → texts_reading texts ≡ Ok t → AreUnmarked texts
unmarked texts t e =
    let r = are_read texts t e in
    record {
      netlist = netlist_unmarked texts.netlist r.c r.netlist_stands;
      scan = scan_unmarked r.c.nets texts.scan r.chains r.scan_stands;
      patterns = patterns_unmarked r.c r.chains texts.patterns r.patterns r.patterns_stand;
      neighbours = neighbours_unmarked texts.netlist texts.neighbours r.c r.pairs r.netlist_stands r.neighbours_stand;
    }
