-- The values of the fields of a name, span by span, and values that are alike.
use Rattle.std.proofs.Common.{◌≡◌, ℕ, Bool, true, false, ◌&&◌, List, [], ◌∷◌, drop, map, Some, refl, subst}
use Rattle.std.specs.List.{slice_get, list_all}
use Rattle.std.specs.Str.{bytes_eq}
use Rattle.std.specs.Cmp.Lexicographic.{bytes_decides}
use Rattle.httparse.specs.declared.spans.HeaderSpan.{HeaderSpan}
use Rattle.httparse.specs.Spans.{header_bytes}
use Rattle.desk_heads.specs.Heads.{is_length, are_alike}
use Rattle.desk_heads.specs.Fields.{named}

-- the values of a name in the fields from the span at a place on
abbrev pub values_from : List ℕ → List ℕ → List HeaderSpan → ℕ → List (List ℕ)
values_from name head spans i = named name (map (header_bytes head) (drop i spans))

-- what is equal to a length is one
all_lengths : (v : List ℕ) (ws : List (List ℕ)) → is_length v ≡ true → list_all (bytes_eq v) ws ≡ true → list_all is_length ws ≡ true
all_lengths v [] right same = refl
all_lengths v (w ∷ ws) right same = by (bytes_eq v w) refl (all_lengths v ws right)
  where
    by : (b : Bool) → bytes_eq v w ≡ b → (list_all (bytes_eq v) ws ≡ true → list_all is_length ws ≡ true) → list_all is_length (w ∷ ws) ≡ true
    by false e others = let no : false ≡ true = rw e at same in absurd (cc)
    by true e others =
        let rest : list_all (bytes_eq v) ws ≡ true = rw e at same in
        let one : v ≡ w = (bytes_decides v w).0 e in
        let here : is_length w ≡ true = subst (λ u. is_length u ≡ true) one right in
        rw (here, others rest) refl

right_lengths_cons : (v : List ℕ) (ws : List (List ℕ)) → is_length v ≡ true → list_all (bytes_eq v) (v ∷ ws) ≡ list_all is_length (v ∷ ws) && are_alike (v ∷ ws)
right_lengths_cons v ws right = rw ((bytes_decides v v).1 refl, right) (by (list_all (bytes_eq v) ws) refl)
  where
    by : (b : Bool) → list_all (bytes_eq v) ws ≡ b → list_all (bytes_eq v) ws ≡ list_all is_length ws && list_all (bytes_eq v) ws
    by true e = rw (e, all_lengths v ws right e) refl
    by false e = rw e (and_false (list_all is_length ws))
      where
        and_false : (b : Bool) → false ≡ b && false
        and_false true = refl
        and_false false = refl

-- where the first value is a length, it is enough that the others are the same
pub right_lengths : (v : List ℕ) (values : List (List ℕ)) → Some v ≡ slice_get values 0 → is_length v ≡ true → list_all (bytes_eq v) values ≡ list_all is_length values && are_alike values
right_lengths v [] first right = absurd (cc)
right_lengths v (w ∷ ws) first right = let e : v ≡ w = cc in subst (λ u. list_all (bytes_eq v) (u ∷ ws) ≡ list_all is_length (u ∷ ws) && are_alike (u ∷ ws)) e (right_lengths_cons v ws right)
