-- Bundles: the profile of a design and its four texts in one text.
use Rattle.std.specs.Prelude.{ℕ, ◌+◌, ◌==◌, Bool, not, ◌&&◌, ◌||◌, nat_lt, if◌then◌else◌, List, [], ◌∷◌, ◌++◌, length, map, filter, take, cond, slice_index_or, codes, Option, Some, None}
use Rattle.std.specs.List.{slice_split, after_first}
use Rattle.std.specs.Option.{option_map}
use Rattle.std.specs.Str.{bytes_eq}
use Rattle.scan_model.specs.declared.fault.Profile.{Profile}
use Rattle.scan_model.specs.declared.fault.Profile.TheVariants.{One, Two}
use Rattle.scan_model.specs.Lines.{text_lines, line_at, pieces}
use Rattle.scan_model.specs.TextFaults.{first_fault}
use Rattle.scan_model.specs.declared.rules.TheConstants.{WRONG_MARK}
use Rattle.scan_model.specs.ReportText.{concatenated}
use Rattle.text_parts.specs.TextEnd.{ended}
use Rattle.design_bundle.specs.FourTexts.{FourTexts}

-- ---- the parts of a bundle

-- the lines before the texts, in their order
abbrev pub markers : List (List ℕ)
markers = codes "%netlist" ∷ codes "%scan" ∷ codes "%patterns" ∷ codes "%neighbours" ∷ []

-- a line that begins with `%` (37)
abbrev pub is_mark : List ℕ → Bool
is_mark line = slice_index_or line 0 0 == 37

-- the marker that is due after these lines, and an empty line after the last
abbrev pub marker_after : List (List ℕ) → List ℕ
marker_after lines = slice_index_or markers (length (filter is_mark lines)) []

-- rule 81: a line that begins with `%` is not the marker that is due, or the first line is no marker
abbrev pub has_wrong_mark : List (List ℕ) → ℕ → Bool
has_wrong_mark lines i = (is_mark (line_at lines i) || (i == 0)) && not (bytes_eq (line_at lines i) (marker_after (take i lines)))

-- rule 81 at the line after the last: a marker is missing
abbrev pub misses_a_marker : List (List ℕ) → Bool
misses_a_marker lines = nat_lt (length (filter is_mark lines)) 4

abbrev pub bundle_rule : List (List ℕ) → ℕ → Option ℕ
bundle_rule lines i = if cond (i == length lines) (misses_a_marker lines) (has_wrong_mark lines i) then Some WRONG_MARK else None

abbrev pub marks_fault : List ℕ → Option (ℕ × ℕ)
marks_fault bytes = first_fault (bundle_rule (text_lines bytes)) (length (text_lines bytes) + 1)

-- the bytes before the first marker, and behind each marker up to the next
abbrev pub sections : List ℕ → List (List ℕ)
sections bytes = map concatenated (slice_split is_mark (pieces bytes))

abbrev pub section_at : List ℕ → ℕ → List ℕ
section_at bytes i = slice_index_or (sections bytes) i []

abbrev pub texts_in : Profile → List ℕ → FourTexts
texts_in profile bytes = record {
  profile = profile;
  netlist = section_at bytes 1;
  scan = section_at bytes 2;
  patterns = section_at bytes 3;
  neighbours = section_at bytes 4;
}

-- ---- the line that names the profile

abbrev pub profile_line : List ℕ
profile_line = codes "%profile 2"

-- the first line is the one that names profile 2
abbrev pub names_two : List ℕ → Bool
names_two bytes = bytes_eq (line_at (text_lines bytes) 0) profile_line

-- the profile of a bundle, which is profile 1 where no line names it
abbrev pub profile_of : List ℕ → Profile
profile_of bytes = if names_two bytes then Two else One

-- what comes after the first line
abbrev pub behind_line : List ℕ → List ℕ
behind_line bytes = after_first (λ b. b == 10) bytes

-- the markers and their texts: the bundle, or what comes after the line that names its profile
abbrev pub marked_part : List ℕ → List ℕ
marked_part bytes = if names_two bytes then behind_line bytes else bytes

-- a fault so many lines further on
abbrev pub lines_on : ℕ → ℕ × ℕ → ℕ × ℕ
lines_on count fault = (fault.0 + count, fault.1)

-- the lines of a bundle before its first marker
abbrev pub lines_before : Profile → ℕ
lines_before One = 0
lines_before Two = 1

-- Rule 81 of a bundle: its first marker stands at line 1, or directly behind the line that names
-- its profile.
abbrev pub bundle_fault : List ℕ → Option (ℕ × ℕ)
bundle_fault bytes = option_map (lines_on (lines_before (profile_of bytes))) (marks_fault (marked_part bytes))

-- the profile of a bundle and its four texts
abbrev pub bundle_texts : List ℕ → FourTexts
bundle_texts bytes = texts_in (profile_of bytes) (marked_part bytes)

-- ---- the bundle of four texts

-- each text behind its marker; one that isn't empty and doesn't end with LF is ended with it
abbrev pub marked_text : FourTexts → List ℕ
marked_text texts =
    codes "%netlist\n" ++ (ended texts.netlist ++ (codes "%scan\n" ++ (ended texts.scan
    ++ (codes "%patterns\n" ++ (ended texts.patterns ++ (codes "%neighbours\n" ++ ended texts.neighbours))))))

-- profile 2 is named by a line before them
abbrev pub named_text : Profile → List ℕ → List ℕ
named_text One text = text
named_text Two text = codes "%profile 2\n" ++ text

abbrev pub bundle_text : FourTexts → List ℕ
bundle_text texts = named_text texts.profile (marked_text texts)
