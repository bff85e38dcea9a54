-- Shares of pieces, one after another.
use Rattle.std.proofs.Common.{◌≡◌, ℕ, ◌+◌, ◌<◌, List, [], ◌∷◌, ◌++◌, length, Result, Ok, IfOk, map, subst, arith}
use Rattle.std.specs.Prelude.{All}
use Rattle.std.specs.List.{flat_map, AllZip}
use Rattle.std.proofs.lemmas.List.{get_or_append_left, get_or-append-add, length-append}
use Rattle.std.proofs.lemmas.List.Elements.{All-nil, All-cons, All-append, Contains-append_cases}
use Rattle.scan_model.specs.declared.rows.NoMemory.{NoMemory}
use Rattle.scan_model.specs.ScanTest.{ScanTest}
use Rattle.fault_effects.specs.declared.share.Share.{Share}
use Rattle.fault_effects.specs.declared.suspect.Suspect.{Suspect}
use Rattle.fault_effects.specs.declared.work_kind.WorkKind.{WorkKind}
use Rattle.fault_effects.specs.FaultModel.{FaultModel, Table}
use Rattle.fault_effects.specs.Shares.{Shares, IsAmong, suspect_fails}
use Rattle.fault_effects.specs.Pieces.{IsServed, item_of}
use Rattle.fault_effects.proofs.ShareLists.{shares_join, shares_none, shares_fewer, among_from, keeps_before, has_behind}

-- what holds of all items holds of those of each piece
pub each_piece : (P : ℕ → Type 0) (parts : List (List ℕ)) → All P (flat_map (λ (l : List ℕ). l) parts) → All (All P) parts
each_piece P [] all = All-nil (All P)
each_piece P (p ∷ ps) all =
    let rest = flat_map (λ (l : List ℕ). l) ps in
    All-cons (All P) p ps
    (λ k d lt. subst P (get_or_append_left p rest d k lt) (all k d (omega (arith, lt, length-append p rest))))
    (each_piece P ps (λ k d lt. subst P (get_or-append-add p rest k d) (all (length p + k) d (omega (arith, lt, length-append p rest)))))

module _ {P : Type 0} (means : P → Table → Type 0) (m : FaultModel) (b : ℕ) (suspects : List Suspect) where
  -- shares on their own, put behind others
  pub shares_behind : (chosen : ℕ → Type 0) (old new : List (Share P)) → Shares means m b suspects chosen [] new → Shares means m b suspects chosen old (old ++ new)
  shares_behind chosen old new shares = record {
    inside = λ inside. All-append (λ s. s.suspect < length suspects) old new inside (shares.inside (All-nil _));
    right = λ right. All-append (λ s. means s.part (suspect_fails m b suspects s.suspect)) old new right (shares.right (All-nil _));
    kept = keeps_before old new;
    there = λ i lt is. has_behind old new i (shares.there i lt is);
  }

  -- what each piece answers of its items, all pieces answer of all items
  pub pieces_joined : (t : ScanTest) (kind : WorkKind) (parts : List (List ℕ)) (results : List (List (Share P)))
      → AllZip (λ (part : List ℕ) (r : Result (List (Share P)) NoMemory). IfOk r (Shares means m b suspects (IsServed t suspects kind part) [])) parts (map Ok results)
      → Shares means m b suspects (IsServed t suspects kind (flat_map (λ (l : List ℕ). l) parts)) [] (flat_map (λ (l : List (Share P)). l) results)
  pieces_joined t kind [] [] all = shares_none means m b suspects (IsServed t suspects kind []) [] (λ i lt served. omega (arith, served.1))
  pieces_joined t kind [] (r ∷ rs) all = absurd all
  pieces_joined t kind (p ∷ ps) [] all = absurd all
  pieces_joined t kind (p ∷ ps) (r ∷ rs) all =
      let rest = flat_map (λ (l : List ℕ). l) ps in
      let behind = flat_map (λ (l : List (Share P)). l) rs in
      shares_join means m b suspects (IsServed t suspects kind p) (IsServed t suspects kind rest) (IsServed t suspects kind (p ++ rest)) [] r (r ++ behind) all.0
      (shares_behind (IsServed t suspects kind rest) r behind (pieces_joined t kind ps rs all.1))
      (λ i lt served. Contains-append_cases p rest (item_of t suspects kind i) served)

  -- what is answered of all items of a list, by the item of each suspect
  pub list_served : (t : ScanTest) (items : List ℕ) (own kind : WorkKind) (old new : List (Share P)) → kind ≡ own
      → Shares means m b suspects (λ i. IsAmong items (length items) (item_of t suspects own i)) old new → Shares means m b suspects (IsServed t suspects kind items) old new
  list_served t items own kind old new is shares =
      shares_fewer means m b suspects (λ i. IsAmong items (length items) (item_of t suspects own i)) (IsServed t suspects kind items) old new
      (λ i served. among_from items (item_of t suspects own i) (let Served : WorkKind → Type 0 = λ k. IsServed t suspects k items i in subst Served is served)) shares
