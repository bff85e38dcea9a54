-- What is left of a bundle, from one of its lines on.
use Rattle.std.specs.Prelude.{◌≤◌, ℕ, ◌^◌, ◌+◌, ◌-◌, ◌==◌, Bool, not, ◌&&◌, ◌||◌, nat_lt, if◌then◌else◌, List, [], ◌∷◌, length, take, drop, slice_index, slice_index_or, Option, Some, None}
use Rattle.std.specs.Str.{bytes_eq}
use Rattle.std.specs.Str.Lines.{strip_carriage_return}
use Rattle.scan_model.specs.Lines.{text_lines}
use Rattle.scan_model.specs.declared.rules.TheConstants.{WRONG_MARK}
use Rattle.design_bundle.specs.declared.bundle.Rest.{Rest}
use Rattle.design_bundle.specs.Bundle.{markers, is_mark, sections}

-- the marker of a number from 0, and an empty line past the last
abbrev pub marker : ℕ → List ℕ
marker due = slice_index_or markers due []

-- a line of a text without its end, which is LF (10) or CR LF
abbrev pub line_in : List ℕ → List ℕ
line_in piece = if slice_index piece (length piece - 1) == 10 then strip_carriage_return (take (length piece - 1) piece) else piece

-- the line of this number, from 1, breaks rule 81 where this marker is due
abbrev pub is_wrong : ℕ → ℕ → List ℕ → Bool
is_wrong due line text = (is_mark text || (line == 1)) && not (bytes_eq text (marker due))

-- rule 81 on these lines, the first of this number from 1, after so many markers
abbrev pub fault_after : ℕ → ℕ → List (List ℕ) → Option (ℕ × ℕ)
fault_after due line [] = if nat_lt due 4 then Some (line, WRONG_MARK) else None
fault_after due line (text ∷ more) =
    if is_wrong due line text then Some (line, WRONG_MARK) else fault_after (if is_mark text then due + 1 else due) (line + 1) more

-- the text is at its end, or at a line that begins with `%`
abbrev pub is_at_mark : List ℕ → Bool
is_at_mark text = (length text == 0) || is_mark text

-- the lines from one on, as a program holds them

-- rule 81 on what is left, after so many markers
abbrev pub rest_fault : ℕ → Rest → Option (ℕ × ℕ)
rest_fault due rest = fault_after due rest.line (text_lines rest.text.now)

-- the texts behind the markers that are left
abbrev pub rest_texts : Rest → List (List ℕ)
rest_texts rest = drop 1 (sections rest.text.now)

-- what is left begins at the first line, at the end, or at a line that begins with `%`
abbrev pub is_due : Rest → Bool
is_due rest = (rest.line == 1) || is_at_mark rest.text.now

-- the lines that are left can be counted
abbrev pub HasRoom : Rest → Type 0
HasRoom rest = rest.line + length rest.text.now ≤ 2 ^ 63
