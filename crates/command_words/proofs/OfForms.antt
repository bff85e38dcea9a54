-- What holds of the command that is named, from what holds of all in the table.
use Rattle.std.proofs.Common.{◌≡◌, ℕ, Bool, cond, true, false, ◌&&◌, List, [], ◌∷◌, Some, refl, ap, sym, subst, map, drop, true≢false}
use Rattle.std.specs.Prelude.{slice_index_or, find, is_some, unwrap_or, length}
use Rattle.std.specs.List.{list_all}
use Rattle.command_words.specs.Words.{begins, is_plain_word}
use Rattle.command_words.specs.Table.{Form, commands}
use Rattle.command_words.specs.RightWords.{are_right, fits, fits_count, form_named}

module _ {X : Type 0} (p : X → Bool) (x : X) where
  -- two functions that agree on a list agree on the one that is found
  at_found : {Y : Type 0} (f g : X → Y) (xs : List X) → map f xs ≡ map g xs → find p xs ≡ Some x → f x ≡ g x
  at_found f g [] same e = absurd (true≢false (sym (ap (λ o. is_some o) e)))
  at_found f g (y ∷ ys) same e = go (p y) (at_found f g ys (ap (drop 1) same)) e
    where
      go : (b : Bool) → (find p ys ≡ Some x → f x ≡ g x) → cond b (Some y) (find p ys) ≡ Some x → f x ≡ g x
      go true rest found = subst (λ z. f z ≡ g z) (ap (λ o. unwrap_or o y) found) (ap (λ zs. slice_index_or zs 0 (f y)) same)
      go false rest found = rest found

  found_passes : (xs : List X) → find p xs ≡ Some x → p x ≡ true
  found_passes [] e = absurd (true≢false (sym (ap (λ o. is_some o) e)))
  found_passes (y ∷ ys) e = go (p y) refl (found_passes ys) e
    where
      go : (b : Bool) → p y ≡ b → (find p ys ≡ Some x → p x ≡ true) → cond b (Some y) (find p ys) ≡ Some x → p x ≡ true
      go true at rest found = subst (λ z. p z ≡ true) (ap (λ o. unwrap_or o y) found) at
      go false at rest found = rest found

pub both : (a b : Bool) → (a && b) ≡ true → (a ≡ true) × (b ≡ true)
both true b e = (refl, e)
both false b e = absurd (true≢false (sym e))

module _ (words : List (List ℕ)) (form : Form) (named : form_named words ≡ Some form) where
  pub at_named : {Y : Type 0} (f g : Form → Y) → map f commands ≡ map g commands → f form ≡ g form
  at_named f g same = at_found (λ form. fits form words) form f g commands same named

  named_fits : fits form words ≡ true
  named_fits = found_passes (λ form. fits form words) form commands named

  pub right_count : fits_count form (length words) ≡ true
  right_count = (both _ _ named_fits).0

  pub right_plain : list_all is_plain_word words ≡ true
  right_plain = (both _ _ (both (begins form.word words) _ (both _ _ named_fits).1).0).0

  pub right_arguments : are_right form.arguments 1 words ≡ true
  right_arguments = (both (begins form.word words) _ (both _ _ named_fits).1).1
