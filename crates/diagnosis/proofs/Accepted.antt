-- The texts that the readings accept have no refused byte.
use Rattle.std.proofs.Common.{◌≡◌, ℕ, ◌+◌, ◌<◌, Bool, true, false, not, ◌&&◌, eqb, is_some, is_none, List, [], ◌∷◌, length, take, Some, None, Ok, refl, subst, arith}
use Rattle.std.specs.List.{All, AllByRecursion}
use Rattle.std.proofs.lemmas.List.{get_or_default}
use Rattle.std.proofs.lemmas.Bool.{or_parts}
use Rattle.std.proofs.lemmas.Bool.Decides.{nat_tests}
use Rattle.scan_model.specs.declared.circuit.Net.{Net}
use Rattle.scan_model.specs.declared.parts.Chain.{Chain}
use Rattle.scan_model.specs.declared.parts.Pattern.{Pattern}
use Rattle.scan_model.specs.Netlist.{Netlist}
use Rattle.scan_model.specs.Lines.{text_lines, line_at, has_refused_byte}
use Rattle.scan_model.specs.Words.{words, has_words}
use Rattle.scan_model.specs.TextFaults.{lowest, first_fault}
use Rattle.scan_model.specs.NetlistRules.{forms_of, defined_names, outputs_of, pins_after, first_rules, first_rule, second_rule, early_fault}
use Rattle.scan_model.specs.NetlistText.{circuit_of, third_rule, netlist_fault, netlist_reading}
use Rattle.scan_model.specs.ScanText.{chain_of, chains_before, cells_in, titles_in, scan_rules, scan_rule, scan_fault, chains_of, scan_reading}
use Rattle.scan_model.specs.PatternText.{PatternFrame, kind_of, pattern_lines, pattern_rules, pattern_rule, pattern_fault, patterns_of, pattern_reading}
use Rattle.scan_model.proofs.FaultSteps.{fault_from-clean}
use Rattle.diagnosis.proofs.NoFaults.{no_fault, neither}
use Rattle.diagnosis.proofs.LastLine.{IsAccepted}

-- no rule of the table is broken
none_broken : (table : List (ℕ × Bool)) → lowest table ≡ None → AllByRecursion (λ (r : ℕ × Bool). r.1 ≡ false) table
none_broken [] e = tt
none_broken (r ∷ more) e = go r.1 refl (none_broken more)
  where
    go : (b : Bool) → r.1 ≡ b → (lowest more ≡ None → AllByRecursion (λ (q : ℕ × Bool). q.1 ≡ false) more) → (r.1 ≡ false) × AllByRecursion (λ (q : ℕ × Bool). q.1 ≡ false) more
    go true h rest = absurd (let bad : Some r.0 ≡ None = rw h at e in cc)
    go false h rest = (h, rest (rw h at e))

differs : (i n : ℕ) → i < n → eqb i n ≡ false
differs i n lt = grind (arith, nat_tests)

module _ (ls : List (List ℕ)) (each : (k : ℕ) → k < length ls → has_refused_byte (line_at ls k) ≡ false) where
  none_refused : All (λ line. has_refused_byte line ≡ false) ls
  none_refused k d lt = subst (λ line. has_refused_byte line ≡ false) (get_or_default ls k [] d lt) (each k lt)

pub netlist_accepted : (text : List ℕ) (c : Netlist) → netlist_reading text ≡ Ok c → IsAccepted text
netlist_accepted text c e =
    let ls = text_lines text in
    let early : early_fault ls ≡ None = neither (early_fault ls) (first_fault (third_rule ls) (length ls)) (no_fault (netlist_fault text) (circuit_of text) c e).0 in
    let first : first_fault (first_rule ls) (length ls) ≡ None = neither (first_fault (first_rule ls) (length ls)) (first_fault (second_rule ls) (length ls)) early in
    none_refused ls (λ k lt.
    let before = forms_of (take k ls) in
    (none_broken (first_rules (defined_names before) (outputs_of before) (length (pins_after [] before)) (line_at ls k)) (fault_from-clean (first_rule ls) 0 (length ls) first k (omega arith) (omega arith))).0)

pub scan_accepted : (nets : List Net) (text : List ℕ) (chains : List Chain) → scan_reading nets text ≡ Ok chains → IsAccepted text
scan_accepted nets text chains e =
    let ls = text_lines text in
    let none : first_fault (scan_rule nets ls) (length ls) ≡ None = (no_fault (scan_fault nets text) (chains_of nets ls) chains e).0 in
    none_refused ls (λ k lt.
    let before = chains_before ls k in
    let rules = none_broken (scan_rules nets (cells_in before) (titles_in before) (line_at ls k)) (fault_from-clean (scan_rule nets ls) 0 (length ls) none k (omega arith) (omega arith)) in
    (or_parts (has_refused_byte (line_at ls k)) (has_words (words (line_at ls k)) && is_none (chain_of (words (line_at ls k)))) rules.0).0)

pub patterns_accepted : (frame : PatternFrame) (text : List ℕ) (patterns : List Pattern) → pattern_reading frame text ≡ Ok patterns → IsAccepted text
patterns_accepted frame text patterns e =
    let ls = text_lines text in
    let none : first_fault (pattern_rule frame ls) (length ls + 1) ≡ None = (no_fault (pattern_fault frame text) (patterns_of frame ls) patterns e).0 in
    none_refused ls (λ k lt.
    let rule : lowest (pattern_rules frame (length (pattern_lines (take k ls))) (line_at ls k)) ≡ None = rw (differs k (length ls) lt) at (fault_from-clean (pattern_rule frame ls) 0 (length ls + 1) none k (omega arith) (omega arith)) in
    let rules = none_broken (pattern_rules frame (length (pattern_lines (take k ls))) (line_at ls k)) rule in
    (or_parts (has_refused_byte (line_at ls k)) (has_words (words (line_at ls k)) && not (is_some (kind_of frame (words (line_at ls k))))) rules.0).0)
