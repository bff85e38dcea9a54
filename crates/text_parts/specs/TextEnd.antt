-- Texts that end with LF.
use Rattle.std.specs.Prelude.{ℕ, ◌-◌, ◌==◌, Bool, if◌then◌else◌, List, [], ◌∷◌, ◌++◌, length, slice_index_or}

-- the text is empty or ends with LF (10)
abbrev pub is_ended : List ℕ → Bool
is_ended bytes = slice_index_or bytes (length bytes - 1) 10 == 10

-- any other text is read as if LF stood at its end
abbrev pub ended : List ℕ → List ℕ
ended bytes = if is_ended bytes then bytes else bytes ++ 10 ∷ []
