-- What is due at the end of a command.
use Rattle.std.specs.Prelude.{◌≡◌, ◌⊎◌, ◌==◌, ℕ, Bool, List, [], ◌∷◌, ◌++◌, codes, Contains}
use Rattle.std.specs.List.{list_any}
use Rattle.desk_commands.specs.Work.{Output}

-- the shelf failed at a file that is then read, and its count rose
pub record FaultIsDue (output : Output) (rose : Type 0) (status : ℕ) (text : List ℕ) : Type 0 where
  pub name : List ℕ
  pub is_read : Contains output.read name
  pub status_is : status ≡ 5
  pub text_is : text ≡ name ++ codes " fault\n"
  pub cause : rose

-- a status and the bytes that go before it: those of this output, or those for a fault of the shelf
abbrev pub IsDueOf : Output → Type 0 → ℕ → List ℕ → Type 0
IsDueOf output rose status text = ((status ≡ output.status) × (text ≡ output.text)) ⊎ FaultIsDue output rose status text

abbrev pub is_one_of : List ℕ → ℕ → Bool
is_one_of statuses status = list_any (λ s. s == status) statuses

-- the statuses of pages
abbrev pub page_statuses : List ℕ
page_statuses = 0 ∷ 3 ∷ 4 ∷ 5 ∷ 11 ∷ []
