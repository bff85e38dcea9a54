-- What one deed more changes in the state read off a list of deeds.
use Rattle.std.proofs.Common.{◌≡◌, ◌∙◌, sym, ap, subst, ℕ, List, [], ◌∷◌, ◌++◌, Bool, true, false, ◌&&◌, Option, Some, None, refl, append_assoc, append-nil}
use Rattle.std.specs.Prelude.{slice_get}
use Rattle.std.specs.List.{filter_map}
use Rattle.std.specs.Str.{bytes_eq}
use Rattle.std.proofs.lemmas.List.Elements.{filter_map-append}
use Rattle.desk_outside.specs.declared.deed.Deed.{Deed}
use Rattle.die_entries.specs.declared.sign.Sign.{Sign as SignOff}
use Rattle.book.specs.Deeds.{NamedText, designs, design_in, design_text, text_if_named, die_logs, die_signs, log_in, sign_in}
use Rattle.book.specs.LegalDeeds.{fits, each_fits}

pub and_left : (a b : Bool) → (a && b) ≡ true → a ≡ true
and_left true b e = refl
and_left false b e = e

pub and_right : (a b : Bool) → (a && b) ≡ true → b ≡ true
and_right true b e = e
and_right false b e = absurd cc

pub both : (a b : Bool) → a ≡ true → b ≡ true → (a && b) ≡ true
both a b e f = rw (e, f) refl

one_more : {X Y : Type 0} (h : X → Option Y) (xs : List X) (x : X) → h x ≡ None → filter_map h (xs ++ x ∷ []) ≡ filter_map h xs
one_more h xs x e = filter_map-append h xs (x ∷ []) ∙ (rw e (append-nil (filter_map h xs)))

one_kept : {X Y : Type 0} (h : X → Option Y) (xs : List X) (x : X) (y : Y) → h x ≡ Some y → filter_map h (xs ++ x ∷ []) ≡ filter_map h xs ++ y ∷ []
one_kept h xs x y e = filter_map-append h xs (x ∷ []) ∙ (rw e)

-- a deed that fits those before it
pub each_fits-push : (before deeds : List Deed) (deed : Deed) → each_fits before deeds ≡ true → fits (before ++ deeds) deed.what ≡ true → each_fits before (deeds ++ deed ∷ []) ≡ true
each_fits-push before [] deed e f = both (fits before deed.what) true (subst (λ bs. fits bs deed.what ≡ true) (append-nil before) f) refl
each_fits-push before (d ∷ ds) deed e f =
    both (fits before d.what) (each_fits (before ++ d ∷ []) (ds ++ deed ∷ [])) (and_left (fits before d.what) (each_fits (before ++ d ∷ []) ds) e)
    (each_fits-push (before ++ d ∷ []) ds deed (and_right (fits before d.what) (each_fits (before ++ d ∷ []) ds) e)
    (subst (λ bs. fits bs deed.what ≡ true) (sym (append_assoc before (d ∷ []) ds)) f))

module _ (deeds : List Deed) (deed : Deed) where
  -- a deed that is no design
  pub designs-same : design_in deed.what ≡ None → designs (deeds ++ deed ∷ []) ≡ designs deeds
  designs-same e = one_more (λ d. design_in d.what) deeds deed e

  pub designs-push : (n : NamedText) → design_in deed.what ≡ Some n → designs (deeds ++ deed ∷ []) ≡ designs deeds ++ n ∷ []
  designs-push n e = one_kept (λ d. design_in d.what) deeds deed n e

  -- a design of another name
  pub design_text-other : (n : NamedText) (name : List ℕ) → design_in deed.what ≡ Some n → bytes_eq n.name name ≡ false → design_text (deeds ++ deed ∷ []) name ≡ design_text deeds name
  design_text-other n name e differs =
      ap (λ ds. slice_get (filter_map (text_if_named name) ds) 0) (designs-push n e)
      ∙ ap (λ ts. slice_get ts 0) (one_more (text_if_named name) (designs deeds) n (rw differs))

  pub design_text-same : (name : List ℕ) → design_in deed.what ≡ None → design_text (deeds ++ deed ∷ []) name ≡ design_text deeds name
  design_text-same name e = ap (λ ds. slice_get (filter_map (text_if_named name) ds) 0) (designs-same e)

  pub die_logs-same : (d x : List ℕ) → log_in d x deed.what ≡ None → die_logs (deeds ++ deed ∷ []) d x ≡ die_logs deeds d x
  die_logs-same d x e = one_more (λ k. log_in d x k.what) deeds deed e

  pub die_logs-push : (d x text : List ℕ) → log_in d x deed.what ≡ Some text → die_logs (deeds ++ deed ∷ []) d x ≡ die_logs deeds d x ++ text ∷ []
  die_logs-push d x text e = one_kept (λ k. log_in d x k.what) deeds deed text e

  pub die_signs-same : (d x : List ℕ) → sign_in d x deed.what ≡ None → die_signs (deeds ++ deed ∷ []) d x ≡ die_signs deeds d x
  die_signs-same d x e = one_more (λ k. sign_in d x k.what) deeds deed e

  pub die_signs-push : (d x : List ℕ) (sign : SignOff) → sign_in d x deed.what ≡ Some sign → die_signs (deeds ++ deed ∷ []) d x ≡ die_signs deeds d x ++ sign ∷ []
  die_signs-push d x sign e = one_kept (λ k. sign_in d x k.what) deeds deed sign e
