-- The nets of a chain's cells, one by one.
use Rattle.std.proofs.Common.{◌≡◌, ℕ, ◌+◌, ◌<◌, Bool, true, false, cond, ltb, ◌||◌, List, [], ◌∷◌, ◌++◌, length, take, map, get_or, Some, None, is_some, refl, sym, ap, ◌∙◌, Bor}
use Rattle.std.specs.Prelude.{bytes_eq}
use Rattle.std.specs.List.{list_any}
use Rattle.std.proofs.lemmas.List.{take_more, length-map, map-append}
use Rattle.std.proofs.lemmas.List.Folds.{list_any-append}
use Rattle.scan_model.specs.declared.circuit.Net.{Net}
use Rattle.scan_model.specs.ScanText.{net_names, number_of_net, is_net}
use Rattle.text_parts.specs.Views.{nows}
use Rattle.text_parts.proofs.Places.{any_position}

is_some_cond : (b : Bool) (i : ℕ) → is_some (cond b (Some i) None) ≡ b
is_some_cond true i = refl
is_some_cond false i = refl

-- a name has a net where its place is that of a net
pub is_net_below : (nets : List Net) (w : List ℕ) (place : ℕ) → place ≡ number_of_net nets w → ltb place (length nets) ≡ is_net nets w
is_net_below nets w place is =
    let number = number_of_net nets w in
    ap (λ (n : ℕ). ltb n (length nets)) is
    ∙ ap (ltb number) (sym (length-map nets (λ n. n.name)))
    ∙ sym (is_some_cond (ltb number (length (net_names nets))) number)
    ∙ any_position (bytes_eq w) (net_names nets)

module _ (cells : List (Bor (List ℕ))) (i : ℕ) (d : Bor (List ℕ)) (lt : i < length cells) where
  seen_more : nows (take (i + 1) cells) ≡ nows (take i cells) ++ (get_or cells i d).now ∷ []
  seen_more = ap nows (take_more cells i d lt) ∙ map-append (λ x. x.now) (take i cells) (get_or cells i d ∷ [])

  pub numbers_more : (f : List ℕ → ℕ) (n : ℕ) (old new : List ℕ) → old ≡ map f (nows (take i cells)) → n ≡ f (get_or cells i d).now → new ≡ old ++ n ∷ [] → new ≡ map f (nows (take (i + 1) cells))
  numbers_more f n old new so_far is pushed =
      pushed
      ∙ ap (λ ns. ns ++ n ∷ []) so_far
      ∙ ap (λ (m : ℕ). map f (nows (take i cells)) ++ m ∷ []) is
      ∙ sym (ap (map f) seen_more ∙ map-append f (nows (take i cells)) ((get_or cells i d).now ∷ []))

  pub any_more : (p : List ℕ → Bool) (b old : Bool) → old ≡ list_any p (nows (take i cells)) → b ≡ p (get_or cells i d).now → (old || b) ≡ list_any p (nows (take (i + 1) cells))
  any_more p b old so_far is =
      ap (λ x. x || b) so_far
      ∙ ap (λ x. list_any p (nows (take i cells)) || x) (is ∙ sym (or_false (p (get_or cells i d).now)))
      ∙ sym (ap (list_any p) seen_more ∙ list_any-append p (nows (take i cells)) ((get_or cells i d).now ∷ []))
    where
      or_false : (x : Bool) → (x || false) ≡ x
      or_false true = refl
      or_false false = refl
