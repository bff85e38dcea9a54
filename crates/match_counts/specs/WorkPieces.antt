-- The lists of work of a block, in pieces.
use Rattle.std.specs.Prelude.{◌≡◌, ◌⊎◌, ◌↔◌, ℕ, List, Contains}
use Rattle.std.specs.List.{Any}
use Rattle.scan_model.specs.ScanTest.{ScanTest}
use Rattle.fault_effects.specs.declared.suspect.Suspect.{Suspect}
use Rattle.fault_effects.specs.declared.work_kind.WorkKind.{WorkKind}
use Rattle.fault_effects.specs.Pieces.{IsItem, item_of}
use Rattle.match_counts.specs.declared.piece.Piece.{Piece}

-- item n of this kind is in one of the pieces
abbrev pub HasItem : List Piece → WorkKind → ℕ → Type 0
HasItem pieces kind n = Any (λ p. (p.kind ≡ kind) × Contains p.items.now n) pieces

-- the pieces have the items that they had, and those of a list
abbrev pub HaveMore : WorkKind → List ℕ → List Piece → List Piece → Type 0
HaveMore kind items old new = (k : WorkKind) (n : ℕ) → HasItem new k n ↔ (HasItem old k n ⊎ ((k ≡ kind) × Contains items n))

-- all that the pieces have are items of their kinds
abbrev pub AreItems : ScanTest → List Suspect → List Piece → Type 0
AreItems t suspects pieces = (kind : WorkKind) (n : ℕ) → HasItem pieces kind n → IsItem t suspects kind n

-- a suspect that one of the pieces serves
abbrev pub IsServedIn : ScanTest → List Suspect → List Piece → ℕ → Type 0
IsServedIn t suspects pieces i = (kind : WorkKind) × HasItem pieces kind (item_of t suspects kind i)
