-- When words are right.
use Rattle.std.proofs.Common.{◌≡◌, List, String, Global, map, string_bytes}
use Rattle.std.specs.List.{list_all}
use Rattle.std.proofs.lemmas.List.Folds.{list_all-map}
use Rattle.command_words.specs.Words.{is_plain_word}

pub all_plain : (words : List (String Global)) → list_all is_plain_word (map string_bytes words) ≡ list_all (λ word. is_plain_word (string_bytes word)) words
all_plain words = list_all-map is_plain_word string_bytes words
