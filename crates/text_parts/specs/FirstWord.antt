-- The first word of a line.
use Rattle.std.specs.Prelude.{ℕ, ◌≡◌, ◌<◌, ◌==◌, ◌||◌, Bool, false, List, [], ◌∷◌, length}
use Rattle.scan_model.specs.Lines.{is_blank}
use Rattle.scan_model.specs.Words.{words}

-- a blank or `#`
abbrev pub is_word_end : ℕ → Bool
is_word_end b = is_blank b || (b == 35)

abbrev pub begins_blank : List ℕ → Bool
begins_blank [] = false
begins_blank (b ∷ bs) = is_blank b

-- the word comes first, and the words of what is left follow
pub record IsFirstWord (line word after : List ℕ) : Type 0 where
  pub words : words line ≡ word ∷ words after
  pub shorter : length after < length line
