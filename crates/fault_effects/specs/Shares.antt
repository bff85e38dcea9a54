-- What suspects come to in a block, as a list of shares that grows.
use Rattle.std.specs.Prelude.{◌≡◌, ℕ, ◌<◌, List, length, map, All, Contains, slice_index}
use Rattle.fault_effects.specs.declared.share.Share.{Share}
use Rattle.fault_effects.specs.declared.suspect.Suspect.{Suspect}
use Rattle.fault_effects.specs.FaultModel.{FaultModel, Table, fails_in}
use Rattle.fault_effects.specs.Owners.{suspect_at}

-- the suspects that have shares
abbrev pub numbers_of : {P : Type 0} → List (Share P) → List ℕ
numbers_of shares = map (λ s. s.suspect) shares

-- a share of suspect i is there
abbrev pub HasShare : {P : Type 0} → List (Share P) → ℕ → Type 0
HasShare shares i = Contains (numbers_of shares) i

-- no share is lost
abbrev pub Keeps : {P : Type 0} → List (Share P) → List (Share P) → Type 0
Keeps old new = (i : ℕ) → HasShare old i → HasShare new i

-- each share is what the truth of its suspect comes to
abbrev pub AreRight : {P : Type 0} → (P → Table → Type 0) → (ℕ → Table) → List (Share P) → Type 0
AreRight means truth shares = All (λ s. means s.part (truth s.suspect)) shares

-- where suspect i predicts fails in block b
abbrev pub suspect_fails : FaultModel → ℕ → List Suspect → ℕ → Table
suspect_fails m b suspects i = fails_in m b (suspect_at suspects i).fault

-- Shares that were right stay right and none is lost; the chosen suspects have theirs.
pub record Shares {P : Type 0} (means : P → Table → Type 0) (m : FaultModel) (b : ℕ) (suspects : List Suspect) (chosen : ℕ → Type 0) (old new : List (Share P)) : Type 0 where
  pub inside : All (λ s. s.suspect < length suspects) old → All (λ s. s.suspect < length suspects) new
  pub right : AreRight means (suspect_fails m b suspects) old → AreRight means (suspect_fails m b suspects) new
  pub kept : Keeps old new
  pub there : (i : ℕ) → i < length suspects → chosen i → HasShare new i

-- the suspects of a list of numbers
abbrev pub IsAmong : List ℕ → ℕ → ℕ → Type 0
IsAmong group n i = (k : ℕ) × (k < n) × (slice_index group k ≡ i)
