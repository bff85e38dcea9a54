-- What a pattern is for, as the reader holds it.
use Rattle.std.specs.Prelude.{ℕ, Bool, nat_le, List, [], ◌∷◌, length, map, Some}
use Rattle.scan_model.specs.declared.parts.PatternKind.{PatternKind}
use Rattle.scan_model.specs.declared.rules.TheConstants.{WRONG_WORDS, WRONG_LENGTH, OTHER_VALUE, TOO_MANY_PATTERNS}
use Rattle.scan_model.specs.PatternText.{PatternFrame, pattern_limit, has_wrong_words, has_wrong_length, has_other_value}
use Rattle.scan_text.specs.declared.pattern.Frame.{Frame}

abbrev pub frame_view : Frame → PatternFrame
frame_view f = record { inputs = f.inputs; lengths = map (λ h. length h.cells) f.chains.now; keyword = f.keyword.now; shifts = f.shifts }

-- rules 22 to 25 at a line of this kind, after so many patterns
abbrev pub kind_rules : PatternFrame → ℕ → PatternKind → List (List ℕ) → List (ℕ × Bool)
kind_rules frame earlier kind ws =
    (WRONG_WORDS, has_wrong_words frame (Some kind) ws) ∷
    (WRONG_LENGTH, has_wrong_length frame (Some kind) ws) ∷
    (OTHER_VALUE, has_other_value frame (Some kind) ws) ∷
    (TOO_MANY_PATTERNS, nat_le pattern_limit earlier) ∷ []
