-- What is so of each flip of a table and of one at hand, when one was lent for the other.
use Rattle.std.proofs.Common.{List, ◌∷◌}
use Rattle.std.specs.Prelude.{All, Contains}
use Rattle.std.proofs.lemmas.List.Elements.{All-cons, All-tail, All-contains, All-contains_itself, All-weaker}

module _ {X : Type 0} (P : X → Type 0) (before : List X) (mine : X) (all : All P before) (one : P mine) where
  pub one_lent : (x : X) → Contains (mine ∷ before) x → P x
  one_lent x there = All-contains P (mine ∷ before) x (All-cons P mine before one all) there

  pub all_kept : (after : List X) → All (Contains (mine ∷ before)) after → All P after
  all_kept after among = All-weaker (Contains (mine ∷ before)) P one_lent after among

-- the same, when one was lent twice
module _ {X : Type 0} (P : X → Type 0) (before between : List X) (mine theirs : X) (all : All P before) (one : P mine)
    (kept : All (Contains (mine ∷ before)) between) (lent : Contains (mine ∷ before) theirs) where
  pub lent_again : (x : X) → Contains (theirs ∷ between) x → P x
  lent_again x there = one_lent P between theirs (all_kept P before mine all one between kept) (one_lent P before mine all one theirs lent) x there

  pub kept_again : (after : List X) → All (Contains (theirs ∷ between)) after → All P after
  kept_again after among = All-weaker (Contains (theirs ∷ between)) P lent_again after among

-- the flips of the table are among those before
pub all_there : {X : Type 0} (mine : X) (before : List X) → All (Contains (mine ∷ before)) before
all_there mine before = All-tail (Contains (mine ∷ before)) mine before (All-contains_itself (mine ∷ before))
