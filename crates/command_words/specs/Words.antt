-- Plain words, and the places of words.
use Rattle.std.specs.Prelude.{ℕ, List, [], length, Bool, not, ◌&&◌, ◌==◌, nat_lt, slice_index, slice_index_or}
use Rattle.std.specs.List.{list_all}
use Rattle.std.specs.Str.{bytes_eq}

-- it isn't empty and doesn't begin with `-`
abbrev pub is_plain_word : List ℕ → Bool
is_plain_word word = nat_lt 0 (length word) && not (slice_index word 0 == 45)

-- the word at a place, from 0
abbrev pub word_at : List (List ℕ) → ℕ → List ℕ
word_at words place = slice_index_or words place []

-- all are plain words, and the first is this command
abbrev pub begins : List ℕ → List (List ℕ) → Bool
begins command words = list_all is_plain_word words && bytes_eq (word_at words 0) command
