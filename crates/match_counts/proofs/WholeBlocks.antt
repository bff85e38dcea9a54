-- The pieces of a block's lists of work serve all suspects, and have the shares of all.
use Rattle.std.proofs.Common.{◌≡◌, ℕ, ◌+◌, ◌<◌, List, [], ◌∷◌, ◌++◌, length, get_or, sym, subst, inl, inr, arith}
use Rattle.std.specs.Prelude.{All, Contains}
use Rattle.std.specs.List.{Any, AllZip, flat_map}
use Rattle.std.proofs.lemmas.Bool.{cases_eq}
use Rattle.scan_model.specs.ScanTest.{ScanTest}
use Rattle.fault_effects.specs.declared.share.Share.{Share}
use Rattle.fault_effects.specs.declared.suspect.Suspect.{Suspect}
use Rattle.fault_effects.specs.declared.work_kind.WorkKind.TheVariants.{Nets, Pins, Cells}
use Rattle.fault_effects.specs.FaultModel.{FaultModel, Table}
use Rattle.fault_effects.specs.Owners.{AreOwners, IsOwned, owner, suspect_at}
use Rattle.fault_effects.specs.Shares.{Shares}
use Rattle.fault_effects.proofs.OwnerGroups.{owned_in}
use Rattle.fault_effects.proofs.PieceShares.{shares_behind}
use Rattle.fault_effects.proofs.ShareLists.{shares_join, shares_none}
use Rattle.match_counts.specs.declared.piece.Piece.{Piece}
use Rattle.match_counts.specs.WorkPieces.{HasItem, IsServedIn}
use Rattle.match_counts.proofs.WorkLists.{any_first}

module _ (t : ScanTest) (suspects : List Suspect) (groups : List (List ℕ)) (owners : AreOwners t suspects groups) where
  abbrev owner_at : ℕ → ℕ
  owner_at i = owner t (suspect_at suspects i).fault

  abbrev count : ℕ
  count = length t.netlist.nets

  pub group_owned : (n : ℕ) (group : List ℕ) → n < length groups → group ≡ get_or groups n [] → All (IsOwned t suspects n) group
  group_owned n group lt is = let Of : List ℕ → Type 0 = All (IsOwned t suspects n) in subst Of (sym is) (owners.owned n lt)

  -- a suspect is served in the list of its owner
  pub all_served : (nets pins cells : List ℕ) (pieces : List Piece) → ((i : ℕ) → i < length suspects → owner t (suspect_at suspects i).fault < length t.netlist.nets → Contains nets (owner t (suspect_at suspects i).fault))
      → pins ≡ get_or groups (length t.netlist.nets) [] → cells ≡ get_or groups (length t.netlist.nets + 1) []
      → ((n : ℕ) → Contains nets n → HasItem pieces Nets n) → ((n : ℕ) → Contains pins n → HasItem pieces Pins n) → ((n : ℕ) → Contains cells n → HasItem pieces Cells n)
      → (i : ℕ) → i < length suspects → owner t (suspect_at suspects i).fault < length t.netlist.nets + 2 → IsServedIn t suspects pieces i
  all_served nets pins cells pieces all pins_are cells_are has_nets has_pins has_cells i lt below = elim (cases_eq (owner_at i) (count + 1)) [
    | inl cell ↦ (Cells, has_cells i (owned_in t suspects groups (count + 1) cells owners cells_are i lt cell))
    | inr no_cell ↦ elim (cases_eq (owner_at i) count) [
      | inl pin ↦ (Pins, has_pins i (owned_in t suspects groups count pins owners pins_are i lt pin))
      | inr no_pin ↦ (Nets, has_nets (owner_at i) (all i lt (omega (arith, below, no_cell, no_pin))))
    ]
  ]

module _ {P : Type 0} (means : P → Table → Type 0) (m : FaultModel) (b : ℕ) (suspects : List Suspect) where
  -- what each of several works answers, all answer together
  pub shares_of_all : {X : Type 0} (served : X → ℕ → Type 0) (works : List X) (results : List (List (Share P)))
      → AllZip (λ (x : X) (shares : List (Share P)). Shares means m b suspects (served x) [] shares) works results
      → Shares means m b suspects (λ i. Any (λ x. served x i) works) [] (flat_map (λ (l : List (Share P)). l) results)
  shares_of_all served [] [] all = shares_none means m b suspects (λ i. Any (λ x. served x i) []) [] (λ i lt any. omega (arith, any.2))
  shares_of_all served [] (r ∷ rs) all = absurd all
  shares_of_all served (x ∷ xs) [] all = absurd all
  shares_of_all served (x ∷ xs) (r ∷ rs) all =
      let behind = flat_map (λ (l : List (Share P)). l) rs in
      let Rest : ℕ → Type 0 = λ i. Any (λ y. served y i) xs in
      shares_join means m b suspects (served x) Rest (λ i. Any (λ y. served y i) (x ∷ xs)) [] r (r ++ behind) all.0
      (shares_behind means m b suspects Rest r behind (shares_of_all served xs rs all.1))
      (λ i lt any. any_first (λ y. served y i) x xs any)

  -- fewer suspects chosen among those that there are
  pub shares_chosen : (chosen fewer : ℕ → Type 0) (old new : List (Share P)) → ((i : ℕ) → i < length suspects → fewer i → chosen i) → Shares means m b suspects chosen old new → Shares means m b suspects fewer old new
  shares_chosen chosen fewer old new each shares = record { inside = shares.inside; right = shares.right; kept = shares.kept; there = λ i lt is. shares.there i lt (each i lt is) }
