-- Each rule table of a text rises, so what it finds on a line is the lowest rule that the line breaks.
use Rattle.std.proofs.Common.{◌≡◌, ℕ, Bool, true, false, not, cond, List, [], ◌∷◌, ◌++◌, length, take, eqb, Option, Some, None, is_some, refl, ◌∙◌, inl, inr}
use Rattle.scan_model.specs.declared.circuit.Net.{Net}
use Rattle.scan_model.specs.Lines.{line_at}
use Rattle.scan_model.specs.Words.{words, has_words}
use Rattle.scan_model.specs.TextFaults.{HasNoFault, IsFirstInRounds, broken_among, breaks, or_else, first_fault}
use Rattle.scan_model.specs.declared.rules.TheConstants.{REFUSED_BYTE, NO_FORM, UNKNOWN_WORD, WRONG_COUNT, LONG_NAME, DEFINED_TWICE, UNDEFINED_NET, WITHOUT_LEVEL, TOO_MANY_NETS_OR_PINS, REFUSED_LOG_BYTE, AFTER_CLOSING_LINE}
use Rattle.scan_model.specs.NetlistRules.{first_table, second_table, first_rule, second_rule, early_fault}
use Rattle.scan_model.specs.NetlistText.{third_table, third_rule, netlist_breaks, netlist_rounds}
use Rattle.scan_model.specs.ScanText.{scan_table, scan_rule, scan_breaks}
use Rattle.scan_model.specs.PatternText.{PatternFrame, pattern_table, pattern_rule, pattern_breaks, pattern_rules, pattern_end_rules, pattern_lines}
use Rattle.scan_model.specs.declared.logs.LogVersion.{LogVersion}
use Rattle.scan_model.specs.LogText.{LogFrame, Headers, log_table, log_rule, log_breaks, log_rules, log_end_rules, later_rules, rules_after, log_line, later_lines, title_of, is_closed, headers_in}
use Rattle.scan_model.proofs.FirstFaults.{IsLowest, rises_from, rises, breaks-append, lowest_is, lowest_in_round, has_none, is_first}

-- ---- netlists

pub first_lowest : (ls : List (List ℕ)) (i : ℕ) → IsLowest (broken_among (REFUSED_BYTE ∷ NO_FORM ∷ UNKNOWN_WORD ∷ WRONG_COUNT ∷ LONG_NAME ∷ DEFINED_TWICE ∷ TOO_MANY_NETS_OR_PINS ∷ []) (netlist_breaks ls) i) (first_rule ls i)
first_lowest ls i = lowest_in_round (REFUSED_BYTE ∷ NO_FORM ∷ UNKNOWN_WORD ∷ WRONG_COUNT ∷ LONG_NAME ∷ DEFINED_TWICE ∷ TOO_MANY_NETS_OR_PINS ∷ []) (λ k. first_table ls k ++ (second_table ls k ++ third_table ls k)) i (first_table ls i) refl refl

pub second_lowest : (ls : List (List ℕ)) (i : ℕ) → IsLowest (broken_among (UNDEFINED_NET ∷ []) (netlist_breaks ls) i) (second_rule ls i)
second_lowest ls i = lowest_in_round (UNDEFINED_NET ∷ []) (λ k. first_table ls k ++ (second_table ls k ++ third_table ls k)) i (second_table ls i) refl refl

pub third_lowest : (ls : List (List ℕ)) (i : ℕ) → IsLowest (broken_among (WITHOUT_LEVEL ∷ []) (netlist_breaks ls) i) (third_rule ls i)
third_lowest ls i = lowest_in_round (WITHOUT_LEVEL ∷ []) (λ k. first_table ls k ++ (second_table ls k ++ third_table ls k)) i (third_table ls i) refl refl

module _ (ls : List (List ℕ)) where
  -- the fault that a netlist is refused with is the first in the rounds
  pub netlist_first : (line r : ℕ) → or_else (early_fault ls) (first_fault (third_rule ls) (length ls)) ≡ Some (line, r) → IsFirstInRounds netlist_rounds (netlist_breaks ls) (length ls) (line, r)
  netlist_first line r e = go (first_fault (first_rule ls) (length ls)) refl (first_fault (second_rule ls) (length ls)) refl e
    where
      go : (a : Option (ℕ × ℕ)) → first_fault (first_rule ls) (length ls) ≡ a → (b : Option (ℕ × ℕ)) → first_fault (second_rule ls) (length ls) ≡ b
          → or_else (or_else a b) (first_fault (third_rule ls) (length ls)) ≡ Some (line, r) → IsFirstInRounds netlist_rounds (netlist_breaks ls) (length ls) (line, r)
      go (Some f) one b two e = inl (is_first (first_rule ls) (broken_among (REFUSED_BYTE ∷ NO_FORM ∷ UNKNOWN_WORD ∷ WRONG_COUNT ∷ LONG_NAME ∷ DEFINED_TWICE ∷ TOO_MANY_NETS_OR_PINS ∷ []) (netlist_breaks ls)) (first_lowest ls) (length ls) line r (one ∙ e))
      go None one (Some f) two e = inr (
        has_none (first_rule ls) (broken_among (REFUSED_BYTE ∷ NO_FORM ∷ UNKNOWN_WORD ∷ WRONG_COUNT ∷ LONG_NAME ∷ DEFINED_TWICE ∷ TOO_MANY_NETS_OR_PINS ∷ []) (netlist_breaks ls)) (first_lowest ls) (length ls) one,
        inl (is_first (second_rule ls) (broken_among (UNDEFINED_NET ∷ []) (netlist_breaks ls)) (second_lowest ls) (length ls) line r (two ∙ e)),
      )
      go None one None two e = inr (
        has_none (first_rule ls) (broken_among (REFUSED_BYTE ∷ NO_FORM ∷ UNKNOWN_WORD ∷ WRONG_COUNT ∷ LONG_NAME ∷ DEFINED_TWICE ∷ TOO_MANY_NETS_OR_PINS ∷ []) (netlist_breaks ls)) (first_lowest ls) (length ls) one,
        inr (
          has_none (second_rule ls) (broken_among (UNDEFINED_NET ∷ []) (netlist_breaks ls)) (second_lowest ls) (length ls) two,
          inl (is_first (third_rule ls) (broken_among (WITHOUT_LEVEL ∷ []) (netlist_breaks ls)) (third_lowest ls) (length ls) line r e),
        ),
      )

  -- in a netlist that is accepted no line breaks a rule
  pub netlist_none : or_else (early_fault ls) (first_fault (third_rule ls) (length ls)) ≡ None → HasNoFault (netlist_breaks ls) (length ls)
  netlist_none e = go (first_fault (first_rule ls) (length ls)) refl (first_fault (second_rule ls) (length ls)) refl e
    where
      three : (i rule : ℕ) → breaks (first_table ls i) rule ≡ false → breaks (second_table ls i) rule ≡ false → breaks (third_table ls i) rule ≡ false → netlist_breaks ls i rule ≡ false
      three i rule one two last = breaks-append (first_table ls i) (second_table ls i ++ third_table ls i) rule one (breaks-append (second_table ls i) (third_table ls i) rule two last)

      go : (a : Option (ℕ × ℕ)) → first_fault (first_rule ls) (length ls) ≡ a → (b : Option (ℕ × ℕ)) → first_fault (second_rule ls) (length ls) ≡ b
          → or_else (or_else a b) (first_fault (third_rule ls) (length ls)) ≡ None → HasNoFault (netlist_breaks ls) (length ls)
      go (Some f) one b two e = absurd cc
      go None one (Some f) two e = absurd cc
      go None one None two e = λ i rule lt. three i rule
          (has_none (first_rule ls) (λ k. breaks (first_table ls k)) (λ k. lowest_is (first_table ls k) refl) (length ls) one i rule lt)
          (has_none (second_rule ls) (λ k. breaks (second_table ls k)) (λ k. lowest_is (second_table ls k) refl) (length ls) two i rule lt)
          (has_none (third_rule ls) (λ k. breaks (third_table ls k)) (λ k. lowest_is (third_table ls k) refl) (length ls) e i rule lt)

-- ---- scan texts

pub scan_lowest : (nets : List Net) (ls : List (List ℕ)) (i : ℕ) → IsLowest (scan_breaks nets ls i) (scan_rule nets ls i)
scan_lowest nets ls i = lowest_is (scan_table nets ls i) refl

-- ---- patterns and logs

rises-if : (b : Bool) (x y : List (ℕ × Bool)) → rises x ≡ true → rises y ≡ true → rises (cond b x y) ≡ true
rises-if true x y up other = up
rises-if false x y other up = up

pub pattern_lowest : (frame : PatternFrame) (ls : List (List ℕ)) (i : ℕ) → IsLowest (pattern_breaks frame ls i) (pattern_rule frame ls i)
pattern_lowest frame ls i =
    lowest_is (pattern_table frame ls i)
    (rises-if (eqb i (length ls)) (pattern_end_rules (length (pattern_lines ls))) (pattern_rules frame (length (pattern_lines (take i ls))) (line_at ls i)) refl refl)

rises_from-if : (r : ℕ) (b : Bool) (x y : List (ℕ × Bool)) → rises_from r x ≡ true → rises_from r y ≡ true → rises_from r (cond b x y) ≡ true
rises_from-if r true x y up other = up
rises_from-if r false x y other up = up

log_rises : (frame : LogFrame) (title : Option LogVersion) (closed : Bool) (headers : Headers) (line : List ℕ) → rises (log_rules frame title closed headers line) ≡ true
log_rises frame title closed headers line = rises_from-if REFUSED_LOG_BYTE (not (has_words (words line))) [] (rules_after frame title closed headers (words line)) refl (after title)
  where
    after : (title : Option LogVersion) → rises_from REFUSED_LOG_BYTE (rules_after frame title closed headers (words line)) ≡ true
    after None = refl
    after (Some version) = rises_from-if REFUSED_LOG_BYTE closed ((AFTER_CLOSING_LINE, true) ∷ []) (later_rules frame version headers (log_line frame.form version (words line))) refl refl

pub log_lowest : (frame : LogFrame) (ls : List (List ℕ)) (i : ℕ) → IsLowest (log_breaks frame ls i) (log_rule frame ls i)
log_lowest frame ls i =
    let title = title_of frame.form (take i ls) in
    let closed = is_closed (later_lines frame.form (take i ls)) in
    let headers = headers_in (later_lines frame.form (take i ls)) in
    lowest_is (log_table frame ls i)
    (rises-if (eqb i (length ls)) (log_end_rules (is_some (title_of frame.form ls)) (is_closed (later_lines frame.form ls))) (log_rules frame title closed headers (line_at ls i))
    refl (log_rises frame title closed headers (line_at ls i)))
