-- A text with the places behind its lines.
use Rattle.std.specs.Prelude.{◌≡◌, ℕ, ◌+◌, ◌-◌, List, [], ◌∷◌, ◌++◌, length, take, drop}
use Rattle.report_lines.specs.declared.draft.Draft.{Draft}
use Rattle.scan_model.specs.ReportText.{concatenated}

-- the places behind each of some lines that begin at a place
abbrev pub ends_from : ℕ → List (List ℕ) → List ℕ
ends_from place [] = []
ends_from place (l ∷ ls) = (place + length l) ∷ ends_from (place + length l) ls

-- a text that begins at a place, cut at later places
abbrev pub cut_at : ℕ → List ℕ → List ℕ → List (List ℕ)
cut_at place [] text = []
cut_at place (e ∷ es) text = take (e - place) text ∷ cut_at e es (drop (e - place) text)

pub record HasLines (lines : List (List ℕ)) (text ends : List ℕ) : Type 0 where
  pub text_is : text ≡ concatenated lines
  pub ends_are : ends ≡ ends_from 0 lines

-- the places of a text are those behind some lines of it
abbrev pub IsCut : Draft → Type 0
IsCut draft = (lines : List (List ℕ)) × HasLines lines draft.text draft.ends

-- lines are added at the end of what was written
pub record AddsLines (lines : List (List ℕ)) (old new : Draft) : Type 0 where
  pub added : (before : List (List ℕ)) → HasLines before old.text old.ends → HasLines (before ++ lines) new.text new.ends
