-- The numbers of nets, where no two have one name.
use Rattle.std.proofs.Common.{◌≡◌, ℕ, ◌+◌, ◌<◌, Bool, true, false, List, [], ◌∷◌, ◌++◌, length, get_or, map, fold, not, append-nil, refl, sym, ap, ◌∙◌, inl, inr, arith}
use Rattle.std.specs.Prelude.{nat_eq}
use Rattle.std.specs.List.{list_any, AllByRecursion, IsDistinct}
use Rattle.std.specs.Str.{bytes_eq}
use Rattle.std.specs.Cmp.Lexicographic.{bytes_decides, nat_list_eq_equiv}
use Rattle.std.proofs.lemmas.Bool.{cases_Bool, cases_lt, both_ways, eqb-true, or_parts, or_from}
use Rattle.std.proofs.lemmas.Cmp.{nat_eq_equiv}
use Rattle.std.proofs.lemmas.Map.Keys.{apart_from_distinct, IsDistinct-push}
use Rattle.std.proofs.lemmas.List.{length-append, map_push}
use Rattle.std.proofs.lemmas.List.Sums.{position_or_len_is, fails_before_first, passes_at_first}
use Rattle.std.proofs.lemmas.List.Folds.{Any-from_list_any}
use Rattle.std.proofs.Math.Seq.{get_or-append_seam}
use Rattle.scan_model.specs.Words.{has_word}
use Rattle.scan_model.specs.NetlistLines.{Form, nothing, input, output, definition, no_form}
use Rattle.scan_model.specs.NetlistRules.{new_output}
use Rattle.scan_model.specs.NetlistText.{net_number}
use Rattle.bench_reader.specs.NetlistDrafts.{uses_undefined}

-- the names of lists that follow each other are numbered in their order
pub number_after : (front back : List (List ℕ)) (n : List ℕ) → IsDistinct bytes_eq (front ++ n ∷ back) → net_number (front ++ n ∷ back) n ≡ length front
number_after front back n differ =
    let all : List (List ℕ) = front ++ n ∷ back in
    let size : length all ≡ length front + length (n ∷ back) = length-append front (n ∷ back) in
    let lt : length front < length all = omega arith in
    let here : get_or all (length front) [] ≡ n = get_or-append_seam front n back [] in
    position_or_len_is (bytes_eq n) all (length front) [] (omega arith)
    (λ k low.
    let apart : bytes_eq (get_or all k []) (get_or all (length front) []) ≡ false = apart_from_distinct bytes_eq all k (length front) [] differ low lt in
    nat_list_eq_equiv.symm n (get_or all k []) ∙ ap (bytes_eq (get_or all k [])) (sym here) ∙ apart)
    (λ in_range. ap (bytes_eq n) here ∙ nat_list_eq_equiv.refl n)

module _ (defined : List (List ℕ)) where
  pub number_in_range : (n : List ℕ) → has_word defined n ≡ true → net_number defined n < length defined
  number_in_range n there =
      let at = Any-from_list_any (bytes_eq n) defined there in
      elim (cases_lt at.0 (net_number defined n)) [
        | inl before ↦ absurd (both_ways (bytes_eq n at.1) (ap (bytes_eq n) (sym at.3) ∙ fails_before_first (bytes_eq n) defined at.0 at.1 before) at.4)
        | inr here ↦ omega (arith, at.2)
      ]

  name_at : (n : List ℕ) → has_word defined n ≡ true → n ≡ get_or defined (net_number defined n) []
  name_at n there = (bytes_decides n (get_or defined (net_number defined n) [])).0 (passes_at_first (bytes_eq n) defined [] (number_in_range n there))

  -- two nets that are defined have one number only where they have one name
  numbers_tell : (n m : List ℕ) → has_word defined n ≡ true → has_word defined m ≡ true → bytes_eq n m ≡ false → nat_eq (net_number defined n) (net_number defined m) ≡ false
  numbers_tell n m n_there m_there differ = elim (cases_Bool (nat_eq (net_number defined n) (net_number defined m))) [
    | inl same ↦
        let number : net_number defined n ≡ net_number defined m = eqb-true (net_number defined n) (net_number defined m) same in
        let names : n ≡ m = name_at n n_there ∙ ap (λ i. get_or defined i []) number ∙ sym (name_at m m_there) in
        absurd (both_ways (bytes_eq n m) differ (ap (bytes_eq n) (sym names) ∙ nat_list_eq_equiv.refl n))
    | inr apart ↦ apart
  ]

  new_number : (n : List ℕ) (os : List (List ℕ)) → has_word defined n ≡ true → AllByRecursion (λ o. has_word defined o ≡ true) os → has_word os n ≡ false → list_any (nat_eq (net_number defined n)) (map (net_number defined) os) ≡ false
  new_number n [] there known new = refl
  new_number n (o ∷ os) there known new =
      let parts = or_parts (bytes_eq n o) (has_word os n) new in
      or_from (nat_eq (net_number defined n) (net_number defined o)) (list_any (nat_eq (net_number defined n)) (map (net_number defined) os)) (numbers_tell n o there known.0 parts.0) (new_number n os there known.1 parts.1)

  known_push : (os : List (List ℕ)) (n : List ℕ) → AllByRecursion (λ o. has_word defined o ≡ true) os → has_word defined n ≡ true → AllByRecursion (λ o. has_word defined o ≡ true) (os ++ n ∷ [])
  known_push [] n known there = (there, tt)
  known_push (o ∷ os) n known there = (known.0, known_push os n known.1 there)

  -- outputs that are defined and differ
  pub record AreOutputs (os : List (List ℕ)) : Type 0 where
    pub known : AllByRecursion (λ o. has_word defined o ≡ true) os
    pub differ : IsDistinct nat_eq (map (net_number defined) os)

  not_lacking : (b : Bool) (more : List Bool) → list_any (λ x. x) (not b ∷ more) ≡ false → b ≡ true
  not_lacking true more e = refl
  not_lacking false more e = absurd cc

  outputs_more : (os : List (List ℕ)) (f : Form) → uses_undefined defined f ≡ false → AreOutputs os → AreOutputs (os ++ new_output os f)
  outputs_more os nothing known are = rw append-nil are
  outputs_more os (input n) known are = rw append-nil are
  outputs_more os (definition n word operands) known are = rw append-nil are
  outputs_more os no_form known are = rw append-nil are
  outputs_more os (output n) known are = elim (cases_Bool (has_word os n)) [
    | inl again ↦ rw (again, append-nil) are
    | inr new ↦
        let there : has_word defined n ≡ true = not_lacking (has_word defined n) [] known in
        rw new record {
          known = known_push os n are.known there;
          differ = rw map_push (IsDistinct-push nat_eq_equiv (map (net_number defined) os) (net_number defined n) are.differ (new_number n os there are.known new));
        }
  ]

  pub outputs_all : (fs : List Form) (os : List (List ℕ)) → AllByRecursion (λ f. uses_undefined defined f ≡ false) fs → AreOutputs os → AreOutputs (fold (λ outputs f. outputs ++ new_output outputs f) os fs)
  outputs_all [] os known are = are
  outputs_all (f ∷ fs) os known are = outputs_all fs (os ++ new_output os f) known.1 (outputs_more os f known.0 are)

  pub outputs_none : AreOutputs []
  unfolding IsDistinct
  outputs_none = record { known = tt; differ = tt }
