-- Fields, each by its name and its value.
use Rattle.std.specs.Prelude.{ℕ, List, map, filter, codes}
use Rattle.std.specs.Str.{str_eq_ignore_ascii_case}

-- the values of the fields of this name
abbrev pub named : List ℕ → List (List ℕ × List ℕ) → List (List ℕ)
named name fields = map (λ f. f.1) (filter (λ f. str_eq_ignore_ascii_case f.0 name) fields)

abbrev pub content_lengths : List (List ℕ × List ℕ) → List (List ℕ)
content_lengths fields = named (codes "Content-Length") fields
