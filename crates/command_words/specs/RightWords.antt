-- Which words are right.
use Rattle.std.specs.Prelude.{ℕ, ◌+◌, Bool, true, false, ◌&&◌, ◌==◌, nat_le, if◌then◌else◌, List, [], ◌∷◌, length, find, Option, None, Some}
use Rattle.scan_model.specs.Words.{is_tag, number_of}
use Rattle.command_words.specs.declared.argument.Argument.{Argument}
use Rattle.command_words.specs.declared.argument.Kind.{Kind}
use Rattle.command_words.specs.declared.argument.Kind.TheVariants.{Plain, Tag, Number}
use Rattle.command_words.specs.Words.{begins, word_at}
use Rattle.command_words.specs.Arguments.{kind_of}
use Rattle.command_words.specs.Table.{Form, commands}

abbrev pub is_within : ℕ → ℕ → Option ℕ → Bool
is_within least most None = false
is_within least most (Some n) = nat_le least n && nat_le n most

abbrev pub is_right : Kind → List ℕ → Bool
is_right Plain word = true
is_right Tag word = is_tag word
is_right (Number least most) word = is_within least most (number_of word)

-- the words from a place on are those of the arguments
abbrev pub are_right : List Argument → ℕ → List (List ℕ) → Bool
are_right [] place words = true
are_right (a ∷ rest) place words = is_right (kind_of a) (word_at words place) && are_right rest (place + 1) words

-- so many words: with logs at least one is left for them, else none
abbrev pub fits_count : Form → ℕ → Bool
fits_count form count = if form.has_logs then nat_le (length form.arguments + 2) count else (count == length form.arguments + 1)

-- the words are plain and those of the command
abbrev pub fits : Form → List (List ℕ) → Bool
fits form words = fits_count form (length words) && (begins form.word words && are_right form.arguments 1 words)

-- the command that the words name, none where they are no command's
abbrev pub form_named : List (List ℕ) → Option Form
form_named words = find (λ form. fits form words) commands
