-- Fail logs, and logs of the points that a compactor leaves.
use Rattle.std.specs.Prelude.{ℕ, ◌+◌, Bool, true, false, not, ◌&&◌, ◌||◌, ◌==◌, nat_lt, nat_le, if◌then◌else◌, is_some, List, [], ◌∷◌, length, map, take, filter, filter_map, flat_map, slice_index, slice_index_or, Option, Some, None, unwrap_or, codes, Result}
use Rattle.std.specs.List.{list_any, position_or_len, range_with_len}
use Rattle.std.specs.Str.{bytes_eq}
use Rattle.scan_model.specs.Lines.{text_lines, line_at, has_refused_byte}
use Rattle.scan_model.specs.Words.{words, word_lines, has_words, number_of}
use Rattle.scan_model.specs.TextFaults.{breaks, lowest, first_fault, refused_or}
use Rattle.scan_model.specs.declared.rules.TheConstants.{REFUSED_LOG_BYTE, NO_TITLE, OTHER_LINE, NO_NUMBER, OTHER_DESIGN, OTHER_DIE, BAD_RANGE, NOWHERE, UNTESTED_PATTERN, OUT_OF_SHIFT, NO_CLOSING_LINE, AFTER_CLOSING_LINE, MISPLACED_LINE, LATE_RANGE}
use Rattle.scan_model.specs.declared.parts.PatternKind.{PatternKind}
use Rattle.scan_model.specs.declared.parts.PatternKind.TheVariants.{Capture, Shift}
use Rattle.scan_model.specs.declared.parts.Pattern.{Pattern}
use Rattle.scan_model.specs.declared.parts.Point.{Point}
use Rattle.scan_model.specs.declared.parts.Point.TheVariants.{Output, Cell}
use Rattle.scan_model.specs.declared.logs.Bit.{Bit}
use Rattle.scan_model.specs.declared.logs.Range.{Range}
use Rattle.scan_model.specs.declared.logs.LogFacts.{LogFacts}
use Rattle.scan_model.specs.declared.logs.LogForm.{LogForm}
use Rattle.scan_model.specs.declared.logs.LogForm.TheVariants.{FailLog, CompactLog}
use Rattle.scan_model.specs.declared.logs.LogVersion.{LogVersion}
use Rattle.scan_model.specs.declared.logs.LogVersion.TheVariants.{First, Second}
use Rattle.scan_model.specs.declared.logs.CutGroup.{CutGroup}
use Rattle.scan_model.specs.declared.logs.CutGroup.TheVariants.{Outputs, Chain}
use Rattle.scan_model.specs.ScanTest.{ScanTest, name_of, points_of}
use Rattle.scan_model.specs.Coverage.{bit_of, some_holds}

-- what a log is read for: its form, the names of the outputs in their order, the names and the lengths of the
-- chains in file order, the points in test order,
-- of each pattern whether it is a SHIFT pattern, and the names of the design and the die.
-- In the log of a compactor the chains are its channels, and a chain is as long as its channel shows something.
pub record LogFrame : Type 0 where
  pub form : LogForm
  pub outputs : List (List ℕ)
  pub chains : List (List ℕ)
  pub lengths : List ℕ
  pub points : List Point
  pub shifts : List Bool
  pub design : List ℕ
  pub die : List ℕ

abbrev pub is_shift_kind : PatternKind → Bool
is_shift_kind Capture = false
is_shift_kind Shift = true

abbrev pub is_shift : Pattern → Bool
is_shift w = is_shift_kind w.kind

-- the frame of a scan test for a design and a die
abbrev pub log_frame : ScanTest → List ℕ → List ℕ → LogFrame
log_frame t design die = record {
  form = FailLog;
  outputs = map (name_of t) t.netlist.outputs;
  chains = map (λ h. h.name) t.chains;
  lengths = map (λ h. length h.cells) t.chains;
  points = points_of t;
  shifts = map is_shift t.patterns;
  design = design;
  die = die;
}

-- the form of a later line, by its words
pub data LogLine : Type 0 where
  die_line : List ℕ → LogLine
  design_line : List ℕ → LogLine
  tested_line : List ℕ → List ℕ → LogLine
  out_line : List ℕ → List ℕ → LogLine
  cell_line : List ℕ → List ℕ → List ℕ → LogLine
  cut_out_line : LogLine
  cut_chain_line : List ℕ → LogLine
  end_line : LogLine
  truncated_line : LogLine
  other_line : LogLine

abbrev pub is_word : List ℕ → List ℕ → Bool
is_word w text = bytes_eq w text

abbrev pub one_word : List ℕ → LogLine
one_word w =
    if is_word w (codes "end") then end_line else if is_word w (codes "truncated") then truncated_line else other_line

-- `cut` is known in version 2 alone
abbrev pub is_cut_word : LogVersion → List ℕ → Bool
is_cut_word First w = false
is_cut_word Second w = is_word w (codes "cut")

abbrev pub two_words : LogVersion → List ℕ → List ℕ → LogLine
two_words version w a =
    if is_word w (codes "die") then die_line a
    else if is_word w (codes "design") then design_line a
    else if is_cut_word version w && is_word a (codes "out") then cut_out_line else other_line

abbrev pub three_words : LogVersion → List ℕ → List ℕ → List ℕ → LogLine
three_words version w a b =
    if is_word w (codes "tested") then tested_line a b
    else if is_cut_word version w && is_word a (codes "chain") then cut_chain_line b else other_line

abbrev pub four_words : List ℕ → List ℕ → List ℕ → List ℕ → LogLine
four_words w p kind a =
    if is_word w (codes "fail") && is_word kind (codes "out") then out_line p a else other_line

-- what stands before a chain's name in a fail line
abbrev pub cell_word : LogForm → List ℕ
cell_word FailLog = codes "cell"
cell_word CompactLog = codes "chan"

abbrev pub five_words : LogForm → List ℕ → List ℕ → List ℕ → List ℕ → List ℕ → LogLine
five_words form w p kind a b =
    if is_word w (codes "fail") && is_word kind (cell_word form) then cell_line p a b else other_line

abbrev pub log_line : LogForm → LogVersion → List (List ℕ) → LogLine
log_line form version (w ∷ []) = one_word w
log_line form version (w ∷ a ∷ []) = two_words version w a
log_line form version (w ∷ a ∷ b ∷ []) = three_words version w a b
log_line form version (w ∷ a ∷ b ∷ c ∷ []) = four_words w a b c
log_line form version (w ∷ a ∷ b ∷ c ∷ d ∷ []) = five_words form w a b c d
log_line form version ws = other_line

abbrev pub is_end : LogLine → Bool
is_end end_line = true
is_end truncated_line = true
is_end l = false

abbrev pub is_die : LogLine → Bool
is_die (die_line w) = true
is_die l = false

abbrev pub is_design : LogLine → Bool
is_design (design_line w) = true
is_design l = false

-- a fail line or a cut line
abbrev pub is_entry : LogLine → Bool
is_entry (out_line p n) = true
is_entry (cell_line p c pos) = true
is_entry cut_out_line = true
is_entry (cut_chain_line w) = true
is_entry l = false

-- ---- the title, which is the first line with words

abbrev pub title_word : LogForm → List ℕ
title_word FailLog = codes "FAILLOG"
title_word CompactLog = codes "COMPLOG"

-- the logs of compactors have one version
abbrev pub is_second : LogForm → List ℕ → Bool
is_second FailLog v = is_word v (codes "2")
is_second CompactLog v = false

abbrev pub version_named : LogForm → List ℕ → Option LogVersion
version_named form v = if is_word v (codes "1") then Some First else if is_second form v then Some Second else None

-- the version that a title names, and none for a line that is no title
abbrev pub title_version : LogForm → List (List ℕ) → Option LogVersion
title_version form (w ∷ v ∷ []) = if is_word w (title_word form) then version_named form v else None
title_version form ws = None

-- the version that the lines after this first line are read by
abbrev pub version_of : LogForm → List (List ℕ) → LogVersion
version_of form ws = unwrap_or (title_version form ws) First

-- the lines with words
abbrev pub filled_lines : List (List ℕ) → List (List (List ℕ))
filled_lines ls = filter has_words (word_lines ls)

-- the version by the first of these, if there is one
abbrev pub first_version : LogForm → List (List (List ℕ)) → Option LogVersion
first_version form [] = None
first_version form (ws ∷ more) = Some (version_of form ws)

-- the version by the title, once a line with words came
abbrev pub title_of : LogForm → List (List ℕ) → Option LogVersion
title_of form ls = first_version form (filled_lines ls)

abbrev pub lines_after : LogForm → List (List (List ℕ)) → List LogLine
lines_after form [] = []
lines_after form (ws ∷ more) = map (log_line form (version_of form ws)) more

-- the lines with words, after the first of them, by their forms
abbrev pub later_lines : LogForm → List (List ℕ) → List LogLine
later_lines form ls = lines_after form (filled_lines ls)

-- ---- the rules of a later line that no closing line precedes

abbrev pub is_number : List ℕ → Bool
is_number w = is_some (number_of w)

abbrev pub number : List ℕ → ℕ
number w = unwrap_or (number_of w) 0

abbrev pub is_other : LogLine → Bool
is_other other_line = true
is_other l = false

-- rule 54
abbrev pub has_no_number : LogLine → Bool
has_no_number (tested_line a b) = not (is_number a && is_number b)
has_no_number (out_line p n) = not (is_number p)
has_no_number (cell_line p c pos) = not (is_number p && is_number pos)
has_no_number l = false

-- rules 55 and 56
abbrev pub has_other_design : LogFrame → LogLine → Bool
has_other_design frame (design_line w) = not (bytes_eq w frame.design)
has_other_design frame l = false

abbrev pub has_other_die : LogFrame → LogLine → Bool
has_other_die frame (die_line w) = not (bytes_eq w frame.die)
has_other_die frame l = false

-- rule 57
abbrev pub has_bad_range : LogFrame → LogLine → Bool
has_bad_range frame (tested_line a b) = nat_lt (number b) (number a) || nat_le (length frame.shifts) (number b)
has_bad_range frame l = false

-- rule 58
abbrev pub has_output : LogFrame → List ℕ → Bool
has_output frame w = list_any (bytes_eq w) frame.outputs

abbrev pub has_chain : LogFrame → List ℕ → Bool
has_chain frame w = list_any (bytes_eq w) frame.chains

-- the length of the chain with the name, and 0 where there is none
abbrev pub chain_length : LogFrame → List ℕ → ℕ
chain_length frame w = slice_index frame.lengths (position_or_len (bytes_eq w) frame.chains)

abbrev pub has_cell : LogFrame → List ℕ → ℕ → Bool
has_cell frame w pos = nat_lt pos (chain_length frame w)

abbrev pub is_nowhere : LogFrame → LogLine → Bool
is_nowhere frame (out_line p n) = not (has_output frame n)
is_nowhere frame (cell_line p c pos) = not (has_cell frame c (number pos))
is_nowhere frame (cut_chain_line w) = not (has_chain frame w)
is_nowhere frame l = false

-- the pattern that a fail line names
abbrev pub pattern_named : LogLine → Option ℕ
pattern_named (out_line p n) = number_of p
pattern_named (cell_line p c pos) = number_of p
pattern_named l = None

-- the lines that came: whether a `die` and a `design` line, the ranges of the `tested` lines, and whether a fail or cut line
pub record Headers : Type 0 where
  pub die : Bool
  pub design : Bool
  pub ranges : List Range
  pub begun : Bool

abbrev pub range_of : LogLine → Option Range
range_of (tested_line a b) = Some (record { first = number a; last = number b })
range_of l = None

abbrev pub headers_in : List LogLine → Headers
headers_in ls = record { die = list_any is_die ls; design = list_any is_design ls; ranges = filter_map range_of ls; begun = list_any is_entry ls }

-- rule 59: a tested line came, and none holds the pattern
abbrev pub has_ranges : List Range → Bool
has_ranges ranges = nat_lt 0 (length ranges)

abbrev pub is_untested : List Range → Option ℕ → Bool
is_untested ranges None = false
is_untested ranges (Some p) = has_ranges ranges && not (some_holds ranges p)

-- rule 60
abbrev pub is_out_of_shift : LogFrame → LogLine → Bool
is_out_of_shift frame (out_line p n) = slice_index_or frame.shifts (number p) false
is_out_of_shift frame l = false

-- rule 63: a header line comes again, other than `tested` in version 2, or a fail, cut or closing line comes while one is missing
abbrev pub has_all : Headers → Bool
has_all headers = headers.die && (headers.design && has_ranges headers.ranges)

abbrev pub is_first : LogVersion → Bool
is_first First = true
is_first Second = false

abbrev pub is_misplaced : LogVersion → Headers → LogLine → Bool
is_misplaced version headers (die_line w) = headers.die
is_misplaced version headers (design_line w) = headers.design
is_misplaced version headers (tested_line a b) = is_first version && has_ranges headers.ranges
is_misplaced version headers other_line = false
is_misplaced version headers l = not (has_all headers)

-- rule 64: in version 2 a `tested` line comes after a fail or cut line
abbrev pub is_late : LogVersion → Headers → LogLine → Bool
is_late version headers (tested_line a b) = not (is_first version) && headers.begun
is_late version headers l = false

-- the rules of a later line, after these headers
abbrev pub later_rules : LogFrame → LogVersion → Headers → LogLine → List (ℕ × Bool)
later_rules frame version headers l =
    (OTHER_LINE, is_other l) ∷
    (NO_NUMBER, has_no_number l) ∷
    (OTHER_DESIGN, has_other_design frame l) ∷
    (OTHER_DIE, has_other_die frame l) ∷
    (BAD_RANGE, has_bad_range frame l) ∷
    (NOWHERE, is_nowhere frame l) ∷
    (UNTESTED_PATTERN, is_untested headers.ranges (pattern_named l)) ∷
    (OUT_OF_SHIFT, is_out_of_shift frame l) ∷
    (MISPLACED_LINE, is_misplaced version headers l) ∷
    (LATE_RANGE, is_late version headers l) ∷ []

-- ---- the rules of a line

-- a closing line came
abbrev pub is_closed : List LogLine → Bool
is_closed later = list_any is_end later

-- the rule of the title where no line with words came, rule 62 alone after a closing line, and else those of a later line
abbrev pub rules_after : LogFrame → Option LogVersion → Bool → Headers → List (List ℕ) → List (ℕ × Bool)
rules_after frame None closed headers ws = (NO_TITLE, not (is_some (title_version frame.form ws))) ∷ []
rules_after frame (Some version) closed headers ws =
    if closed then (AFTER_CLOSING_LINE, true) ∷ [] else later_rules frame version headers (log_line frame.form version ws)

abbrev pub rules_of_words : LogFrame → Option LogVersion → Bool → Headers → List (List ℕ) → List (ℕ × Bool)
rules_of_words frame title closed headers ws = if not (has_words ws) then [] else rules_after frame title closed headers ws

abbrev pub log_rules : LogFrame → Option LogVersion → Bool → Headers → List ℕ → List (ℕ × Bool)
log_rules frame title closed headers line = (REFUSED_LOG_BYTE, has_refused_byte line) ∷ rules_of_words frame title closed headers (words line)

-- at the line after the last
abbrev pub log_end_rules : Bool → Bool → List (ℕ × Bool)
log_end_rules titled closed = (NO_TITLE, not titled) ∷ (NO_CLOSING_LINE, not closed) ∷ []

-- the rules at the line i, which may be the one after the last
abbrev pub log_table : LogFrame → List (List ℕ) → ℕ → List (ℕ × Bool)
log_table frame ls i =
    if i == length ls then log_end_rules (is_some (title_of frame.form ls)) (is_closed (later_lines frame.form ls))
    else log_rules frame (title_of frame.form (take i ls)) (is_closed (later_lines frame.form (take i ls))) (headers_in (later_lines frame.form (take i ls))) (line_at ls i)

-- the line i breaks the rule
abbrev pub log_breaks : LogFrame → List (List ℕ) → ℕ → ℕ → Bool
log_breaks frame ls i rule = breaks (log_table frame ls i) rule

-- the lowest rule that the line i breaks
abbrev pub log_rule : LogFrame → List (List ℕ) → ℕ → Option ℕ
log_rule frame ls i = lowest (log_table frame ls i)

abbrev pub log_fault : LogFrame → List ℕ → Option (ℕ × ℕ)
log_fault frame bytes = first_fault (log_rule frame (text_lines bytes)) (length (text_lines bytes) + 1)

-- ---- what a log without a fault stands for

abbrev pub names_point : LogFrame → Point → LogLine → Bool
names_point frame (Output k) (out_line p n) = bytes_eq n (slice_index_or frame.outputs k [])
names_point frame (Cell k pos) (cell_line p c w) =
    bytes_eq c (slice_index_or frame.chains k []) && (number w == pos)
names_point frame s l = false

-- a fail line names the point in the pattern
abbrev pub is_listed : LogFrame → List LogLine → ℕ → Point → Bool
is_listed frame ls p s = list_any (λ l. list_any (λ q. q == p) (filter_map pattern_named (l ∷ [])) && names_point frame s l) ls

-- the bits of all patterns in their order, and of those the ones that a fail line names
abbrev pub points_listed : LogFrame → List LogLine → ℕ → List Bit
points_listed frame ls p =
    map (bit_of p)
    (filter (λ k. is_listed frame ls p (slice_index_or frame.points k (Output 0))) (range_with_len 0 (length frame.points)))

abbrev pub bits_listed : LogFrame → List LogLine → List Bit
bits_listed frame ls = flat_map (points_listed frame ls) (range_with_len 0 (length frame.shifts))

abbrev pub is_truncated : LogLine → Bool
is_truncated truncated_line = true
is_truncated l = false

-- the group that a line cuts
abbrev pub group_cut : LogFrame → LogLine → Option CutGroup
group_cut frame cut_out_line = Some Outputs
group_cut frame (cut_chain_line w) = Some (Chain (position_or_len (bytes_eq w) frame.chains))
group_cut frame l = None

abbrev pub same_group : CutGroup → CutGroup → Bool
same_group Outputs Outputs = true
same_group Outputs (Chain h) = false
same_group (Chain g) Outputs = false
same_group (Chain g) (Chain h) = g == h

-- the groups, each once, in the order in which they come first
abbrev pub each_once : List CutGroup → List CutGroup
each_once [] = []
each_once (g ∷ gs) = g ∷ filter (λ h. not (same_group g h)) (each_once gs)

abbrev pub is_in_group : CutGroup → Point → Bool
is_in_group Outputs (Output k) = true
is_in_group Outputs (Cell h pos) = false
is_in_group (Chain g) (Output k) = false
is_in_group (Chain g) (Cell h pos) = g == h

-- those of these points that are in a group, by their places in rising order
abbrev pub group_points : List Point → CutGroup → List ℕ
group_points points g = filter (λ k. is_in_group g (slice_index_or points k (Output 0))) (range_with_len 0 (length points))

abbrev pub log_of_lines : LogFrame → List LogLine → LogFacts
log_of_lines frame ls = record {
  ranges = filter_map range_of ls;
  truncated = list_any is_truncated ls;
  fails = bits_listed frame ls;
  cuts = map (group_points frame.points) (each_once (filter_map (group_cut frame) ls));
}

-- what reading a log gives: its first fault, or the log that it stands for
abbrev pub log_reading : LogFrame → List ℕ → Result LogFacts (ℕ × ℕ)
log_reading frame bytes = refused_or (log_fault frame bytes) (log_of_lines frame (later_lines frame.form (text_lines bytes)))
