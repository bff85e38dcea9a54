-- The shares of the suspects on shift paths, kind by kind and from the last one down.
use Rattle.std.proofs.Common.{◌≡◌, ◌⊎◌, ℕ, ◌+◌, List, length, refl, sym, ap, subst, ◌∙◌, inl, inr, arith}
use Rattle.std.specs.Prelude.{All, slice_index}
use Rattle.std.proofs.lemmas.Bool.{cases_eq}
use Rattle.scan_model.specs.declared.fault.CellKind.{CellKind}
use Rattle.scan_model.specs.declared.fault.CellKind.TheVariants.{Stuck0, Stuck1, SlowRise, SlowFall}
use Rattle.scan_model.specs.declared.fault.Fault.{Fault}
use Rattle.scan_model.specs.declared.fault.Fault.TheVariants as fault
use Rattle.scan_model.specs.ScanTest.{ScanTest, IsScanTest}
use Rattle.fault_effects.specs.declared.share.Share.{Share}
use Rattle.fault_effects.specs.declared.suspect.Suspect.{Suspect}
use Rattle.fault_effects.specs.FaultModel.{FaultModel, Table}
use Rattle.fault_effects.specs.Owners.{IsSuspectOf, IsOwned, suspect_at, no_suspect}
use Rattle.fault_effects.specs.Shares.{Shares, IsAmong}
use Rattle.fault_effects.specs.Walks.{IsOfKind, IsFrom}
use Rattle.fault_effects.proofs.CellShares.{cell_owned}
use Rattle.fault_effects.proofs.ShareLists.{shares_join}

-- one place more, from above
pub from_more : (group : List ℕ) (n i : ℕ) → IsFrom group n i → IsFrom group (n + 1) i ⊎ (i ≡ slice_index group n)
from_more group n i from = elim (cases_eq from.0 n) [
  | inl last ↦ inr (sym from.3 ∙ ap (slice_index group) last)
  | inr other ↦ inl (from.0, omega (arith, from.1, other), from.2, from.3)
]

module _ {P : Type 0} (means : P → Table → Type 0) (m : FaultModel) (b : ℕ) (suspects : List Suspect) (group : List ℕ) where
  abbrev OfKind : CellKind → ℕ → Type 0
  OfKind K i = IsAmong group (length group) i × IsOfKind K (suspect_at suspects i).fault

  -- each suspect of the group is of one of the four kinds
  kinds_of : (f : Fault) (h c : ℕ) (K : CellKind) → f ≡ fault.Cell h c K → ((IsOfKind Stuck0 f ⊎ IsOfKind Stuck1 f) ⊎ IsOfKind SlowRise f) ⊎ IsOfKind SlowFall f
  kinds_of f h c Stuck0 is = inl (inl (inl (subst (IsOfKind Stuck0) (sym is) refl)))
  kinds_of f h c Stuck1 is = inl (inl (inr (subst (IsOfKind Stuck1) (sym is) refl)))
  kinds_of f h c SlowRise is = inl (inr (subst (IsOfKind SlowRise) (sym is) refl))
  kinds_of f h c SlowFall is = inr (subst (IsOfKind SlowFall) (sym is) refl)

  pub four_kinds : (t : ScanTest) (s0 s1 s2 s3 s4 : List (Share P)) → IsScanTest t → All (IsSuspectOf t) suspects → All (IsOwned t suspects (length t.netlist.nets + 1)) group
      → Shares means m b suspects (OfKind Stuck0) s0 s1 → Shares means m b suspects (OfKind Stuck1) s1 s2 → Shares means m b suspects (OfKind SlowRise) s2 s3 → Shares means m b suspects (OfKind SlowFall) s3 s4
      → Shares means m b suspects (IsAmong group (length group)) s0 s4
  four_kinds t s0 s1 s2 s3 s4 sound are owned first second third fourth =
      let Two : ℕ → Type 0 = λ i. OfKind Stuck0 i ⊎ OfKind Stuck1 i in
      let Three : ℕ → Type 0 = λ i. Two i ⊎ OfKind SlowRise i in
      let two = shares_join means m b suspects (OfKind Stuck0) (OfKind Stuck1) Two s0 s1 s2 first second (λ i lt is. is) in
      let three = shares_join means m b suspects Two (OfKind SlowRise) Three s0 s2 s3 two third (λ i lt is. is) in
      shares_join means m b suspects Three (OfKind SlowFall) (IsAmong group (length group)) s0 s3 s4 three fourth (λ i lt among.
      let own : IsOwned t suspects (length t.netlist.nets + 1) i = subst (IsOwned t suspects (length t.netlist.nets + 1)) among.2 (owned among.0 0 among.1) in
      let is = cell_owned t (suspect_at suspects i).fault sound (are i no_suspect lt).site own.owned in
      elim (kinds_of (suspect_at suspects i).fault is.chain is.pos is.kind is.is) [
        | inl early ↦ elim early [
          | inl stuck ↦ elim stuck [
            | inl zero ↦ inl (inl (inl (among, zero)))
            | inr one ↦ inl (inl (inr (among, one)))
          ]
          | inr rise ↦ inl (inr (among, rise))
        ]
        | inr fall ↦ inr (among, fall)
      ])
