-- The first line of a text.
use Rattle.std.specs.Prelude.{ℕ, ◌≡◌, ◌==◌, ◌<◌, List, [], ◌∷◌, length, if◌then◌else◌}
use Rattle.scan_model.specs.Lines.{text_lines}

-- a text without LF is one line, if it is not empty
abbrev pub HasNoEnd : List ℕ → Type 0
HasNoEnd bytes = text_lines bytes ≡ (if length bytes == 0 then [] else bytes ∷ [])

-- the line comes first, and the lines of what is left follow
pub record BeginsWith (bytes line after : List ℕ) : Type 0 where
  pub lines : text_lines bytes ≡ line ∷ text_lines after
  pub shorter : length after < length bytes
