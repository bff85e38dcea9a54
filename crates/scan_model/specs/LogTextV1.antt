-- Fail logs as they were defined when version 1 was the only one: one range of tested patterns, and no groups that are
-- cut on their own. Kept for the law that a log of version 1 still says what it said.
use Rattle.std.specs.Prelude.{ℕ, ◌+◌, Bool, true, false, not, ◌&&◌, ◌||◌, ◌==◌, nat_lt, nat_le, if◌then◌else◌, is_some, List, [], ◌∷◌, length, map, take, filter, filter_map, slice_get, slice_index_or, Option, Some, None, codes, Result}
use Rattle.std.specs.List.{list_any}
use Rattle.scan_model.specs.Lines.{text_lines, line_at, has_refused_byte}
use Rattle.scan_model.specs.Words.{words, word_lines, has_words}
use Rattle.scan_model.specs.TextFaults.{lowest, first_fault, refused_or}
use Rattle.scan_model.specs.declared.rules.TheConstants.{REFUSED_LOG_BYTE, NO_TITLE, OTHER_LINE, NO_NUMBER, OTHER_DESIGN, OTHER_DIE, BAD_RANGE, NOWHERE, UNTESTED_PATTERN, OUT_OF_SHIFT, AFTER_CLOSING_LINE, MISPLACED_LINE}
use Rattle.scan_model.specs.declared.logs.Bit.{Bit}
use Rattle.scan_model.specs.declared.logs.LogForm.TheVariants.{FailLog}
use Rattle.scan_model.specs.Coverage.{not_after}
use Rattle.scan_model.specs.LogText.{LogFrame, LogLine, die_line, design_line, tested_line, other_line, is_word, one_word, four_words, five_words, is_end, is_die, is_design, is_truncated, is_other, number, has_no_number, has_other_design, has_other_die, has_bad_range, is_nowhere, pattern_named, is_out_of_shift, log_end_rules, bits_listed}

-- ---- what a log says

pub record LogV1 : Type 0 where
  pub first : ℕ
  pub last : ℕ
  pub truncated : Bool
  pub fails : List Bit

-- A complete log covers all bits of its tested patterns. One that was cut short covers them up to its last
-- failing bit, and none where it has no failing bit.
abbrev pub covers_v1 : LogV1 → Bit → Bool
covers_v1 log b = (nat_le log.first b.pattern && nat_le b.pattern log.last) && (not log.truncated || list_any (not_after b) log.fails)

-- ---- the lines

abbrev pub two_words : List ℕ → List ℕ → LogLine
two_words w a =
    if is_word w (codes "die") then die_line a else if is_word w (codes "design") then design_line a else other_line

abbrev pub three_words : List ℕ → List ℕ → List ℕ → LogLine
three_words w a b = if is_word w (codes "tested") then tested_line a b else other_line

abbrev pub log_line : List (List ℕ) → LogLine
log_line (w ∷ []) = one_word w
log_line (w ∷ a ∷ []) = two_words w a
log_line (w ∷ a ∷ b ∷ []) = three_words w a b
log_line (w ∷ a ∷ b ∷ c ∷ []) = four_words w a b c
log_line (w ∷ a ∷ b ∷ c ∷ d ∷ []) = five_words FailLog w a b c d
log_line ws = other_line

-- the first line with words
abbrev pub is_title : List (List ℕ) → Bool
is_title (w ∷ v ∷ []) = is_word w (codes "FAILLOG") && is_word v (codes "1")
is_title ws = false

abbrev pub without_first : List (List (List ℕ)) → List (List (List ℕ))
without_first [] = []
without_first (ws ∷ more) = more

-- the lines with words, after the first of them, by their forms
abbrev pub later_lines : List (List ℕ) → List LogLine
later_lines ls = map log_line (without_first (filter has_words (word_lines ls)))

-- the first line with words is the title
abbrev pub begins_with_title : List (List (List ℕ)) → Bool
begins_with_title [] = false
begins_with_title (ws ∷ more) = is_title ws

abbrev pub is_version_1 : List (List ℕ) → Bool
is_version_1 ls = begins_with_title (filter has_words (word_lines ls))

-- ---- the rules of a later line that no closing line precedes

-- the header lines that came: whether a `die` and a `design` line, and the range of the first `tested` line
pub record Headers : Type 0 where
  pub die : Bool
  pub design : Bool
  pub tested : Option (ℕ × ℕ)

abbrev pub range_of : LogLine → Option (ℕ × ℕ)
range_of (tested_line a b) = Some (number a, number b)
range_of l = None

abbrev pub headers_in : List LogLine → Headers
headers_in ls = record { die = list_any is_die ls; design = list_any is_design ls; tested = slice_get (filter_map range_of ls) 0 }

-- rule 59: a tested line came, and the pattern is not in its range
abbrev pub is_outside : ℕ × ℕ → ℕ → Bool
is_outside range p = nat_lt p range.0 || nat_lt range.1 p

abbrev pub is_untested : Option (ℕ × ℕ) → Option ℕ → Bool
is_untested (Some range) (Some p) = is_outside range p
is_untested tested pattern = false

-- rule 63: a header line comes again, or a fail or closing line comes while one is missing
abbrev pub has_all : Headers → Bool
has_all headers = headers.die && (headers.design && is_some headers.tested)

abbrev pub is_misplaced : Headers → LogLine → Bool
is_misplaced headers (die_line w) = headers.die
is_misplaced headers (design_line w) = headers.design
is_misplaced headers (tested_line a b) = is_some headers.tested
is_misplaced headers other_line = false
is_misplaced headers l = not (has_all headers)

-- the rules of a later line, after these headers
abbrev pub later_rules : LogFrame → Headers → LogLine → List (ℕ × Bool)
later_rules frame headers l =
    (OTHER_LINE, is_other l) ∷
    (NO_NUMBER, has_no_number l) ∷
    (OTHER_DESIGN, has_other_design frame l) ∷
    (OTHER_DIE, has_other_die frame l) ∷
    (BAD_RANGE, has_bad_range frame l) ∷
    (NOWHERE, is_nowhere frame l) ∷
    (UNTESTED_PATTERN, is_untested headers.tested (pattern_named l)) ∷
    (OUT_OF_SHIFT, is_out_of_shift frame l) ∷
    (MISPLACED_LINE, is_misplaced headers l) ∷ []

-- ---- the rules of a line

-- a line with words came
abbrev pub is_titled : List (List ℕ) → Bool
is_titled before = list_any has_words (word_lines before)

-- a closing line came
abbrev pub is_closed : List LogLine → Bool
is_closed later = list_any is_end later

-- the rule of the title where no line with words came, rule 62 alone after a closing line, and else those of a later line
abbrev pub rules_of_words : LogFrame → Bool → Bool → Headers → List (List ℕ) → List (ℕ × Bool)
rules_of_words frame titled closed headers ws =
    if not (has_words ws) then []
    else if not titled then (NO_TITLE, not (is_title ws)) ∷ []
    else if closed then (AFTER_CLOSING_LINE, true) ∷ []
    else later_rules frame headers (log_line ws)

abbrev pub log_rules : LogFrame → Bool → Bool → Headers → List ℕ → List (ℕ × Bool)
log_rules frame titled closed headers line = (REFUSED_LOG_BYTE, has_refused_byte line) ∷ rules_of_words frame titled closed headers (words line)

-- the rules at the line i, which may be the one after the last
abbrev pub log_table : LogFrame → List (List ℕ) → ℕ → List (ℕ × Bool)
log_table frame ls i =
    if i == length ls then log_end_rules (is_titled ls) (is_closed (later_lines ls))
    else log_rules frame (is_titled (take i ls)) (is_closed (later_lines (take i ls))) (headers_in (later_lines (take i ls))) (line_at ls i)

-- the lowest rule that the line i breaks
abbrev pub log_rule : LogFrame → List (List ℕ) → ℕ → Option ℕ
log_rule frame ls i = lowest (log_table frame ls i)

abbrev pub log_fault : LogFrame → List ℕ → Option (ℕ × ℕ)
log_fault frame bytes = first_fault (log_rule frame (text_lines bytes)) (length (text_lines bytes) + 1)

-- ---- what a log without a fault stands for

abbrev pub range_in : List LogLine → ℕ × ℕ
range_in ls = slice_index_or (filter_map range_of ls) 0 (0, 0)

abbrev pub log_of_lines : LogFrame → List LogLine → LogV1
log_of_lines frame ls = record {
  first = (range_in ls).0;
  last = (range_in ls).1;
  truncated = list_any is_truncated ls;
  fails = bits_listed frame ls;
}

-- what reading a log gives: its first fault, or the log that it stands for
abbrev pub log_v1 : LogFrame → List ℕ → Result LogV1 (ℕ × ℕ)
log_v1 frame bytes = refused_or (log_fault frame bytes) (log_of_lines frame (later_lines (text_lines bytes)))
