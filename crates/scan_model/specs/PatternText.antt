-- The patterns of a pattern text.
use Rattle.std.specs.Prelude.{ℕ, ◌+◌, Bool, true, false, not, ◌&&◌, ◌||◌, ◌==◌, nat_lt, nat_le, if◌then◌else◌, is_some, List, [], ◌∷◌, length, map, take, filter, Option, Some, None, codes, Result}
use Rattle.std.specs.List.{list_any, list_all}
use Rattle.std.specs.Str.{bytes_eq}
use Rattle.scan_model.specs.Lines.{text_lines, line_at, has_refused_byte}
use Rattle.scan_model.specs.Words.{words, word_lines, has_words}
use Rattle.scan_model.specs.TextFaults.{breaks, lowest, first_fault, refused_or}
use Rattle.scan_model.specs.declared.rules.TheConstants.{OTHER_KEYWORD, WRONG_WORDS, WRONG_LENGTH, OTHER_VALUE, TOO_MANY_PATTERNS, NO_PATTERN}
use Rattle.scan_model.specs.declared.parts.Chain.{Chain}
use Rattle.scan_model.specs.declared.parts.Pattern.{Pattern}
use Rattle.scan_model.specs.Netlist.{Netlist}
use Rattle.scan_model.specs.declared.parts.PatternKind.{PatternKind}
use Rattle.scan_model.specs.declared.parts.PatternKind.TheVariants.{Capture, Shift}
use Rattle.scan_model.specs.declared.values.Tri.{Tri}
use Rattle.scan_model.specs.declared.values.Tri.TheVariants.{Zero, One, Unknown}

abbrev pub pattern_limit : ℕ
pattern_limit = 4096

-- What a pattern is for: so many inputs, and chains of these lengths in file order. A line of the keyword captures; there
-- may be lines that only shift.
pub record PatternFrame : Type 0 where
  pub inputs : ℕ
  pub lengths : List ℕ
  pub keyword : List ℕ
  pub shifts : Bool

abbrev pub pattern_frame : Netlist → List Chain → PatternFrame
pattern_frame c chains = record { inputs = length c.inputs; lengths = map (λ h. length h.cells) chains; keyword = codes "CAPTURE"; shifts = true }

-- one of the characters `0`, `1`, `X`, `x`
abbrev pub is_value : ℕ → Bool
is_value b = (b == 48) || ((b == 49) || ((b == 88) || (b == 120)))

abbrev pub character_value : ℕ → Tri
character_value b = if b == 48 then Zero else if b == 49 then One else Unknown

-- the first word is the keyword, or SHIFT where lines may only shift, or another
abbrev pub kind_of : PatternFrame → List (List ℕ) → Option PatternKind
kind_of frame [] = None
kind_of frame (w ∷ ws) =
    if bytes_eq w frame.keyword then Some Capture else if frame.shifts && bytes_eq w (codes "SHIFT") then Some Shift else None

-- `-` stands where there is no input
abbrev pub is_dash : List ℕ → Bool
is_dash w = bytes_eq w (codes "-")

-- each word has the length
abbrev pub have_lengths : List ℕ → List (List ℕ) → Bool
have_lengths (n ∷ ns) (w ∷ ws) = (length w == n) && have_lengths ns ws
have_lengths [] ws = true
have_lengths ns [] = true

-- rule 22: a word for the inputs in a line that captures, and one for each chain
abbrev pub word_count : PatternFrame → PatternKind → ℕ
word_count frame Capture = 2 + length frame.lengths
word_count frame Shift = 1 + length frame.lengths

abbrev pub has_wrong_words : PatternFrame → Option PatternKind → List (List ℕ) → Bool
has_wrong_words frame None ws = false
has_wrong_words frame (Some kind) ws = not (length ws == word_count frame kind)

-- rule 23
abbrev pub inputs_fit : ℕ → List ℕ → Bool
inputs_fit n w = if n == 0 then is_dash w else length w == n

abbrev pub has_wrong_length : PatternFrame → Option PatternKind → List (List ℕ) → Bool
has_wrong_length frame (Some Capture) (keyword ∷ p ∷ ws) = not (inputs_fit frame.inputs p && have_lengths frame.lengths ws)
has_wrong_length frame (Some Shift) (keyword ∷ ws) = not (have_lengths frame.lengths ws)
has_wrong_length frame kind ws = false

-- rule 24
abbrev pub has_other_value : PatternFrame → Option PatternKind → List (List ℕ) → Bool
has_other_value frame (Some Capture) (keyword ∷ p ∷ ws) =
    (nat_lt 0 frame.inputs && not (list_all is_value p)) || list_any (λ w. not (list_all is_value w)) ws
has_other_value frame (Some Shift) (keyword ∷ ws) = list_any (λ w. not (list_all is_value w)) ws
has_other_value frame kind ws = false

-- the lines with words, each of which is a pattern
abbrev pub pattern_lines : List (List ℕ) → List (List (List ℕ))
pattern_lines ls = filter has_words (word_lines ls)

-- rule 21
abbrev pub has_other_keyword : PatternFrame → List ℕ → List (List ℕ) → Bool
has_other_keyword frame line ws = has_refused_byte line || (has_words ws && not (is_some (kind_of frame ws)))

-- the rules at a line, after so many patterns
abbrev pub pattern_rules : PatternFrame → ℕ → List ℕ → List (ℕ × Bool)
pattern_rules frame earlier line =
    (OTHER_KEYWORD, has_other_keyword frame line (words line)) ∷
    (WRONG_WORDS, has_wrong_words frame (kind_of frame (words line)) (words line)) ∷
    (WRONG_LENGTH, has_wrong_length frame (kind_of frame (words line)) (words line)) ∷
    (OTHER_VALUE, has_other_value frame (kind_of frame (words line)) (words line)) ∷
    (TOO_MANY_PATTERNS, has_words (words line) && nat_le pattern_limit earlier) ∷ []

-- rule 26, at the line after the last
abbrev pub pattern_end_rules : ℕ → List (ℕ × Bool)
pattern_end_rules patterns = (NO_PATTERN, patterns == 0) ∷ []

-- the rules at the line i, which may be the one after the last
abbrev pub pattern_table : PatternFrame → List (List ℕ) → ℕ → List (ℕ × Bool)
pattern_table frame ls i =
    if i == length ls then pattern_end_rules (length (pattern_lines ls))
    else pattern_rules frame (length (pattern_lines (take i ls))) (line_at ls i)

-- the line i breaks the rule
abbrev pub pattern_breaks : PatternFrame → List (List ℕ) → ℕ → ℕ → Bool
pattern_breaks frame ls i rule = breaks (pattern_table frame ls i) rule

-- the lowest rule that the line i breaks
abbrev pub pattern_rule : PatternFrame → List (List ℕ) → ℕ → Option ℕ
pattern_rule frame ls i = lowest (pattern_table frame ls i)

abbrev pub pattern_fault : PatternFrame → List ℕ → Option (ℕ × ℕ)
pattern_fault frame bytes = first_fault (pattern_rule frame (text_lines bytes)) (length (text_lines bytes) + 1)

-- the pattern of a line's words
abbrev pub input_values : ℕ → List ℕ → List Tri
input_values n w = if n == 0 then [] else map character_value w

abbrev pub line_pattern : PatternFrame → List (List ℕ) → Pattern
line_pattern frame (keyword ∷ p ∷ ws) =
    if bytes_eq keyword frame.keyword
    then record { kind = Capture; inputs = input_values frame.inputs p; loads = map (map character_value) ws }
    else record { kind = Shift; inputs = []; loads = map (map character_value) (p ∷ ws) }
line_pattern frame ws = record { kind = Shift; inputs = []; loads = [] }

abbrev pub patterns_of : PatternFrame → List (List ℕ) → List Pattern
patterns_of frame ls = map (line_pattern frame) (pattern_lines ls)

-- what reading a pattern text gives: its first fault, or the patterns in the order of lines
abbrev pub pattern_reading : PatternFrame → List ℕ → Result (List Pattern) (ℕ × ℕ)
pattern_reading frame bytes = refused_or (pattern_fault frame bytes) (patterns_of frame (text_lines bytes))
