-- What calls make of numbered pieces.
use Rattle.std.specs.Prelude.{◌≡◌, ℕ, ◌<◌, List, length, All, Option, Result, Ok, None, IfSome, get_or}
use denote.Param.Members.{Shared}
use Rattle.scan_model.specs.declared.rows.NoMemory.{NoMemory}
use Rattle.std.specs.List.{AllZip, range_with_len}
use Rattle.work_crew.specs.declared.crew.Piece.{Piece}

-- each slot that has something has what R says of its number
abbrev pub ArePlaced : {T : Type 0} → (ℕ → T → Type 0) → ℕ → List (Option T) → Type 0
ArePlaced R count slots = (length slots ≡ count) × ((i : ℕ) → i < count → IfSome (get_or slots i None) (R i))

module _ {F T : Type 0} (g : Shared F (ℕ × Unit {0}) (Result T NoMemory)) (f : F) where
  -- a call of f with this number may give x
  abbrev pub Makes : ℕ → T → Type 0
  Makes number x = g.post f (number, tt) (Ok x)

  -- the pieces have numbers below count, and each is what a call with its number may give
  abbrev pub AreMade : ℕ → List (Piece T) → Type 0
  AreMade count pieces = All (λ p. (p.number < count) × Makes p.number p.made) pieces

  -- what calls with the numbers below count may give, in their order
  abbrev pub MakeAll : ℕ → List T → Type 0
  MakeAll count made = AllZip Makes (range_with_len 0 count) made
