-- A line that begins with `%` breaks a rule of each text that is read line by line.
use Rattle.std.proofs.Common.{◌≡◌, ℕ, suc, ◌+◌, ◌<◌, ◌≤◌, Bool, true, false, List, [], ◌∷◌, length, take, Option, Some, None, refl, arith}
use Rattle.std.specs.Prelude.{All, ◌==◌, ◌&&◌, not, is_some, is_none, filter}
use Rattle.std.specs.List.{slice_split, position_or_len}
use Rattle.std.proofs.lemmas.Bool.{eqb-true, ne_eqb, lt-ltb, not_from_false, or_right, false_from_ne_true}
use Rattle.std.proofs.lemmas.List.Elements.{All-from_get_or}
use Rattle.scan_model.specs.declared.circuit.Net.{Net}
use Rattle.scan_model.specs.declared.parts.Chain.{Chain}
use Rattle.scan_model.specs.Netlist.{Netlist}
use Rattle.scan_model.specs.Lines.{line_at, has_refused_byte, without_comment, is_blank}
use Rattle.scan_model.specs.Words.{words, is_filled, has_words}
use Rattle.scan_model.specs.TextFaults.{lowest, first_fault}
use Rattle.scan_model.specs.declared.rules.TheConstants.{REFUSED_BYTE, NO_FORM, OTHER_CHAIN_FORM, OTHER_KEYWORD}
use Rattle.scan_model.specs.NetlistLines.{form_of}
use Rattle.scan_model.specs.NetlistRules.{is_no_form, forms_of, defined_names, outputs_of, pins_after, first_rules, first_rule}
use Rattle.scan_model.specs.ScanText.{chain_of, chains_before, cells_in, titles_in, scan_rules, scan_rule}
use Rattle.scan_model.specs.PatternText.{pattern_frame, kind_of, pattern_lines, pattern_rules, pattern_rule}
use Rattle.scan_model.proofs.FaultSteps.{fault_from-clean}
use Rattle.design_bundle.specs.Bundle.{is_mark}

-- such a line begins with `%` outside its comment too
outside_comment : (line : List ℕ) → is_mark line ≡ true → (bs : List ℕ) × (without_comment line ≡ 37 ∷ bs)
outside_comment [] e = absurd cc
outside_comment (b ∷ bs) e =
    let comment = position_or_len (λ x. x == 35) bs in
    let b_is : b ≡ 37 = eqb-true b 37 e in
    let place : position_or_len (λ x. x == 35) (37 ∷ bs) ≡ suc comment = omega arith in
    (take comment bs, rw (b_is, place) refl)

-- its first token is none that a form begins with
has_no_form : (line : List ℕ) → is_mark line ≡ true → is_no_form (form_of line) ≡ true
has_no_form line e = let out = outside_comment line e in rw out.1 refl

-- its first word begins with `%`
first_word : (line : List ℕ) → is_mark line ≡ true → (w : List ℕ) × (ws : List (List ℕ)) × (words line ≡ (37 ∷ w) ∷ ws)
first_word line e = let out = outside_comment line e in go out.0 out.1 (slice_split is_blank out.0) refl
  where
    go : (bs : List ℕ) → without_comment line ≡ 37 ∷ bs → (parts : List (List ℕ)) → slice_split is_blank bs ≡ parts → (w : List ℕ) × (ws : List (List ℕ)) × (words line ≡ (37 ∷ w) ∷ ws)
    go bs h [] s = ([], [], rw (h, s) refl)
    go bs h (part ∷ parts) s =
        let filled : is_filled (37 ∷ part) ≡ true = not_from_false (length (37 ∷ part) == 0) (ne_eqb (length (37 ∷ part)) 0 (λ none. omega arith)) in
        (part, filter is_filled parts, rw (h, s, filled) refl)

has_a_word : (w : List ℕ) (ws : List (List ℕ)) → has_words (w ∷ ws) ≡ true
has_a_word w ws = lt-ltb 0 (length (w ∷ ws)) (omega arith)

-- its words are those of no chain
has_no_chain : (line : List ℕ) → is_mark line ≡ true → (has_words (words line) && is_none (chain_of (words line))) ≡ true
has_no_chain line e = let first = first_word line e in go first.0 first.1 first.2
  where
    go : (w : List ℕ) (ws : List (List ℕ)) → words line ≡ (37 ∷ w) ∷ ws → (has_words (words line) && is_none (chain_of (words line))) ≡ true
    go w [] is = rw is refl
    go w (name ∷ []) is = rw is refl
    go w (name ∷ cell ∷ cells) is = rw (is, has_a_word (37 ∷ w) (name ∷ cell ∷ cells)) refl

-- its first word names no kind of pattern
has_no_kind : (c : Netlist) (chains : List Chain) (line : List ℕ) → is_mark line ≡ true → (has_words (words line) && not (is_some (kind_of (pattern_frame c chains) (words line)))) ≡ true
has_no_kind c chains line e = let first = first_word line e in rw (first.2, has_a_word (37 ∷ first.0) first.1) refl

-- ---- the rules that it breaks

breaks_netlist : (defined outputs : List (List ℕ)) (pins : ℕ) (line : List ℕ) → is_mark line ≡ true → lowest (first_rules defined outputs pins line) ≡ None → ⊥
breaks_netlist defined outputs pins line mark = go (has_refused_byte line) refl
  where
    go : (refused : Bool) → has_refused_byte line ≡ refused → lowest (first_rules defined outputs pins line) ≡ None → ⊥
    go true e none = let some : lowest (first_rules defined outputs pins line) ≡ Some REFUSED_BYTE = rw e refl in cc
    go false e none = let some : lowest (first_rules defined outputs pins line) ≡ Some NO_FORM = rw (e, has_no_form line mark) refl in cc

breaks_scan : (nets : List Net) (cells titles : List (List ℕ)) (line : List ℕ) → is_mark line ≡ true → lowest (scan_rules nets cells titles line) ≡ None → ⊥
breaks_scan nets cells titles line mark none =
    let some : lowest (scan_rules nets cells titles line) ≡ Some OTHER_CHAIN_FORM = rw (or_right (has_refused_byte line) _ (has_no_chain line mark)) refl in cc

breaks_patterns : (c : Netlist) (chains : List Chain) (earlier : ℕ) (line : List ℕ) → is_mark line ≡ true → lowest (pattern_rules (pattern_frame c chains) earlier line) ≡ None → ⊥
breaks_patterns c chains earlier line mark none =
    let some : lowest (pattern_rules (pattern_frame c chains) earlier line) ≡ Some OTHER_KEYWORD = rw (or_right (has_refused_byte line) _ (has_no_kind c chains line mark)) refl in cc

-- ---- lines without a fault

module _ (rule : ℕ → Option ℕ) (ls : List (List ℕ)) (n : ℕ) (enough : length ls ≤ n) (breaks : (i : ℕ) → i < length ls → is_mark (line_at ls i) ≡ true → rule i ≡ None → ⊥) where
  none_marked : first_fault rule n ≡ None → All (λ line. is_mark line ≡ false) ls
  none_marked clean = All-from_get_or (λ line. is_mark line ≡ false) ls [] (λ i lt.
      false_from_ne_true (is_mark (line_at ls i)) (λ mark. breaks i lt mark (fault_from-clean rule 0 n clean i (omega arith) (omega arith))))

pub unmarked_netlist : (ls : List (List ℕ)) → first_fault (first_rule ls) (length ls) ≡ None → All (λ line. is_mark line ≡ false) ls
unmarked_netlist ls = none_marked (first_rule ls) ls (length ls) (omega arith)
    (λ i lt. breaks_netlist (defined_names (forms_of (take i ls))) (outputs_of (forms_of (take i ls))) (length (pins_after [] (forms_of (take i ls)))) (line_at ls i))

pub unmarked_scan : (nets : List Net) (ls : List (List ℕ)) → first_fault (scan_rule nets ls) (length ls) ≡ None → All (λ line. is_mark line ≡ false) ls
unmarked_scan nets ls = none_marked (scan_rule nets ls) ls (length ls) (omega arith)
    (λ i lt. breaks_scan nets (cells_in (chains_before ls i)) (titles_in (chains_before ls i)) (line_at ls i))

pub unmarked_patterns : (c : Netlist) (chains : List Chain) (ls : List (List ℕ)) → first_fault (pattern_rule (pattern_frame c chains) ls) (length ls + 1) ≡ None → All (λ line. is_mark line ≡ false) ls
unmarked_patterns c chains ls = none_marked (pattern_rule (pattern_frame c chains) ls) ls (length ls + 1) (omega arith) (λ i lt mark none.
    let inside : (i == length ls) ≡ false = ne_eqb i (length ls) (λ same. omega arith) in
    breaks_patterns c chains (length (pattern_lines (take i ls))) (line_at ls i) mark (rw inside at none))
