-- Suspects in groups by owner.
use Rattle.std.proofs.Common.{◌≡◌, ℕ, ◌+◌, ◌<◌, true, eqb, List, [], length, get_or, sym, ap, subst, ◌∙◌, arith}
use Rattle.std.specs.Prelude.{All, Contains, slice_index}
use Rattle.std.proofs.lemmas.Bool.{eq-eqb, eqb-true}
use Rattle.scan_model.specs.ScanTest.{ScanTest}
use Rattle.scan_model.proofs.Orders.{filter_range_all}
use Rattle.lane_rows.specs.Groups.{members}
use Rattle.fault_effects.specs.declared.suspect.Suspect.{Suspect}
use Rattle.fault_effects.specs.Owners.{owner, suspect_at, IsOwned, AreOwners}
use Rattle.fault_effects.proofs.NetPoints.{filtered}

pub grouped : (t : ScanTest) (suspects : List Suspect) (keys : List ℕ) (groups : List (List ℕ)) (count : ℕ) → length keys ≡ length suspects → length groups ≡ count → ((i : ℕ) → i < length suspects → slice_index keys i ≡ owner t (suspect_at suspects i).fault)
    → ((i : ℕ) → i < length suspects → owner t (suspect_at suspects i).fault < count)
    → ((k : ℕ) → k < count → get_or groups k [] ≡ members keys k (length keys)) → AreOwners t suspects groups
grouped t suspects keys groups count len size key below is = record {
  owned = λ n lt.
      let Owned : List ℕ → Type 0 = All (IsOwned t suspects n) in
      subst Owned (sym (is n (omega arith))) (λ k d in_group. owned_at n (get_or (members keys n (length keys)) k d) (filtered (λ i. eqb (slice_index keys i) n) 0 (length keys) k d in_group));
  all = λ i lt. rw (is (owner t (suspect_at suspects i).fault) (below i lt)) (filter_range_all (λ x. eqb (slice_index keys x) (owner t (suspect_at suspects i).fault)) 0 (length keys) i (omega arith) (omega arith) (eq-eqb _ _ (key i lt)));
}
  where
    owned_at : (n i : ℕ) → (i < 0 + length keys) × (eqb (slice_index keys i) n ≡ true) → IsOwned t suspects n i
    owned_at n i passes =
        let within : i < length suspects = omega (arith, passes.0) in
        record { within = within; owned = sym (key i within) ∙ eqb-true (slice_index keys i) n passes.1 }

-- a suspect is in the group of its owner
pub owned_in : (t : ScanTest) (suspects : List Suspect) (groups : List (List ℕ)) (n : ℕ) (group : List ℕ) → AreOwners t suspects groups → group ≡ get_or groups n [] → (i : ℕ) → i < length suspects → owner t (suspect_at suspects i).fault ≡ n → Contains group i
owned_in t suspects groups n group owners is i lt same =
    let In : List ℕ → Type 0 = λ xs. Contains xs i in
    subst In (ap (λ (x : ℕ). get_or groups x []) same ∙ sym is) (owners.all i lt)
