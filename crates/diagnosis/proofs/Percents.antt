-- Whether texts have the byte `%` (37).
use Rattle.std.proofs.Common.{ℕ, Bool, List}
use Rattle.std.specs.Prelude.{◌==◌}
use Rattle.std.specs.List.{list_any}

abbrev pub has_percent : List ℕ → Bool
has_percent bytes = list_any (λ b. b == 37) bytes

-- in a field of a record, and in a record of a list
abbrev pub some_field : List (List ℕ) → Bool
some_field fields = list_any has_percent fields

abbrev pub some_record : List (List (List ℕ)) → Bool
some_record rows = list_any some_field rows
