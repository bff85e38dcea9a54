-- Lists of shares that grow.
use Rattle.std.proofs.Common.{◌≡◌, ◌⊎◌, ℕ, ◌+◌, ◌<◌, List, [], ◌∷◌, ◌++◌, length, sym, ap, subst, ◌∙◌, inl, inr, arith}
use Rattle.std.specs.Prelude.{Contains, slice_index}
use Rattle.std.proofs.lemmas.Bool.{cases_eq}
use Rattle.std.proofs.lemmas.List.{map-append, map_push, get_or_default}
use Rattle.std.proofs.lemmas.List.Elements.{All-push, Contains-append_left, Contains-append_right, Contains-push}
use Rattle.fault_effects.specs.declared.share.Share.{Share}
use Rattle.fault_effects.specs.declared.suspect.Suspect.{Suspect}
use Rattle.fault_effects.specs.FaultModel.{FaultModel, Table}
use Rattle.fault_effects.specs.Shares.{Keeps, HasShare, numbers_of, Shares, suspect_fails, IsAmong}

pub keeps_before : {P : Type 0} (old new : List (Share P)) → Keeps old (old ++ new)
keeps_before {P} old new i has =
    let Has : List ℕ → Type 0 = λ ns. Contains ns i in
    subst Has (sym (map-append (λ (s : Share P). s.suspect) old new)) (Contains-append_left (numbers_of old) (numbers_of new) i has)

pub has_behind : {P : Type 0} (old new : List (Share P)) (i : ℕ) → HasShare new i → HasShare (old ++ new) i
has_behind {P} old new i has =
    let Has : List ℕ → Type 0 = λ ns. Contains ns i in
    subst Has (sym (map-append (λ (s : Share P). s.suspect) old new)) (Contains-append_right (numbers_of old) (numbers_of new) i has)

has_pushed : {P : Type 0} (shares : List (Share P)) (s : Share P) → HasShare (shares ++ s ∷ []) s.suspect
has_pushed {P} shares s =
    let Has : List ℕ → Type 0 = λ ns. Contains ns s.suspect in
    subst Has (sym (map_push (λ (x : Share P). x.suspect) shares s)) (Contains-push (numbers_of shares) s.suspect)

module _ {P : Type 0} (means : P → Table → Type 0) (m : FaultModel) (b : ℕ) (suspects : List Suspect) where
  pub shares_none : (chosen : ℕ → Type 0) (shares : List (Share P)) → ((i : ℕ) → i < length suspects → chosen i → ⊥) → Shares means m b suspects chosen shares shares
  shares_none chosen shares none = record { inside = λ inside. inside; right = λ right. right; kept = λ i has. has; there = λ i lt is. absurd (none i lt is) }

  pub shares_join : (first second both : ℕ → Type 0) (old mid new : List (Share P)) → Shares means m b suspects first old mid → Shares means m b suspects second mid new → ((i : ℕ) → i < length suspects → both i → first i ⊎ second i) → Shares means m b suspects both old new
  shares_join first second both old mid new begin end either = record {
    inside = λ inside. end.inside (begin.inside inside);
    right = λ right. end.right (begin.right right);
    kept = λ i has. end.kept i (begin.kept i has);
    there = λ i lt is. elim (either i lt is) [
      | inl now ↦ end.kept _ (begin.there i lt now)
      | inr later ↦ end.there i lt later
    ];
  }

  -- fewer suspects chosen
  pub shares_fewer : (chosen fewer : ℕ → Type 0) (old new : List (Share P)) → ((i : ℕ) → fewer i → chosen i) → Shares means m b suspects chosen old new → Shares means m b suspects fewer old new
  shares_fewer chosen fewer old new each shares = record { inside = shares.inside; right = shares.right; kept = shares.kept; there = λ i lt is. shares.there i lt (each i is) }

  -- one suspect's share more
  pub shares_push : (shares new : List (Share P)) (i : ℕ) (part : P) → new ≡ shares ++ (record { suspect = i; part = part }) ∷ [] → i < length suspects → means part (suspect_fails m b suspects i) → Shares means m b suspects (λ k. k ≡ i) shares new
  shares_push shares new i part pushed within is =
      let s : Share P = record { suspect = i; part = part } in
      let From : List (Share P) → Type 0 = Shares means m b suspects (λ k. k ≡ i) shares in
      subst From (sym pushed) (record {
        inside = λ inside. All-push (λ x. x.suspect < length suspects) shares s inside within;
        right = λ right. All-push (λ x. means x.part (suspect_fails m b suspects x.suspect)) shares s right is;
        kept = keeps_before shares (s ∷ []);
        there = λ k lt same. let Has : ℕ → Type 0 = HasShare (shares ++ s ∷ []) in subst Has (sym same) (has_pushed shares s);
      })

-- one number more
pub among_more : (group : List ℕ) (n i : ℕ) → IsAmong group (n + 1) i → IsAmong group n i ⊎ (i ≡ slice_index group n)
among_more group n i among = elim (cases_eq among.0 n) [
  | inl last ↦ inr (sym among.2 ∙ ap (slice_index group) last)
  | inr other ↦ inl (among.0, omega (arith, among.1, other), among.2)
]

pub among_from : (group : List ℕ) (i : ℕ) → Contains group i → IsAmong group (length group) i
among_from group i there = (there.0, there.1, get_or_default group there.0 0 i there.1 ∙ there.2)
