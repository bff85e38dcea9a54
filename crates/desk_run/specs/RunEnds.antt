-- How a run may end.
use Rattle.std.specs.Prelude.{◌≡◌, ◌⊎◌, ℕ, Bool, true, false, List, [], ◌∷◌, codes, Option}
use Rattle.run_ends.specs.Endings.{Ends}
use Rattle.desk_commands.specs.Work.{Output}
use Rattle.desk_commands.specs.CommandEnds.{IsDueOf, page_statuses}

-- the statuses with which a run may end: of `serve`, and of all else, which are those of pages, 2, 6 and 8
abbrev pub statuses_of : Bool → List ℕ
statuses_of true = 0 ∷ 6 ∷ 7 ∷ 8 ∷ 9 ∷ 10 ∷ []
statuses_of false = 2 ∷ 6 ∷ 8 ∷ page_statuses

-- a status and the bytes that go before it: those that are due, or those for want of memory
abbrev pub MayEnd : Output → Type 0 → ℕ → List ℕ → Type 0
MayEnd output rose status text = IsDueOf output rose status text ⊎ ((status ≡ 8) × (text ≡ codes "memory\n"))

-- a run ended as it may: with a page that was due, of which a failing sink has a part
pub record IsRunEnd (output : Output) (shelf_rose sink_rose : Type 0) (result : ℕ) (old new : Option (List ℕ)) : Type 0 where
  pub status : ℕ
  pub text : List ℕ
  pub due : MayEnd output shelf_rose status text
  pub ends : Ends status text result old new sink_rose
