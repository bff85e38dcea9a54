-- One more argument of a command.
use Rattle.std.proofs.Common.{◌≡◌, ◌∙◌, ◌<◌, ◌≤◌, ℕ, suc, ◌+◌, ◌&&◌, List, ◌∷◌, length, drop, ap, arith, drop-cons, drop_of_length-le, true}
use Rattle.std.specs.Prelude.{slice_index_or}
use Rattle.clap.specs.Words.{App, with_rule}
use Rattle.command_words.specs.declared.argument.Argument.{Argument}
use Rattle.command_words.specs.Words.{word_at}
use Rattle.command_words.specs.Arguments.{kind_of, name_of}
use Rattle.command_words.specs.RightWords.{are_right, is_right}
use Rattle.command_words.specs.ClapCommands.{argument, with_arguments}

-- the one at a place comes before those after it
next : (arguments : List Argument) (i : ℕ) (d : Argument) → i < length arguments → drop i arguments ≡ slice_index_or arguments i d ∷ drop (i + 1) arguments
next arguments i d lt =
    let more : suc i ≡ i + 1 = omega arith in
    drop-cons arguments i d lt ∙ ap (λ (k : ℕ). slice_index_or arguments i d ∷ drop k arguments) more

pub next_right : (arguments : List Argument) (words : List (List ℕ)) (i : ℕ) (d : Argument) → i < length arguments
    → are_right (drop i arguments) (i + 1) words ≡ (is_right (kind_of (slice_index_or arguments i d)) (word_at words (i + 1)) && are_right (drop (i + 1) arguments) (i + 1 + 1) words)
next_right arguments words i d lt = ap (λ xs. are_right xs (i + 1) words) (next arguments i d lt)

pub none_left : (arguments : List Argument) (words : List (List ℕ)) (i : ℕ) → length arguments ≤ i → are_right (drop i arguments) (i + 1) words ≡ true
none_left arguments words i past = ap (λ xs. are_right xs (i + 1) words) (drop_of_length-le arguments past)

pub next_argument : (arguments : List Argument) (app : App) (i : ℕ) (d : Argument) → i < length arguments
    → with_arguments app (drop i arguments) ≡ with_arguments (with_rule app (argument (name_of (slice_index_or arguments i d)))) (drop (i + 1) arguments)
next_argument arguments app i d lt = ap (with_arguments app) (next arguments i d lt)

pub all_added : (arguments : List Argument) (app : App) (i : ℕ) → length arguments ≤ i → with_arguments app (drop i arguments) ≡ app
all_added arguments app i past = ap (λ xs. with_arguments app xs) (drop_of_length-le arguments past)
