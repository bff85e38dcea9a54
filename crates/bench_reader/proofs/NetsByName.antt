-- One more use, among those from a place on, and one more operand.
use Rattle.std.proofs.Common.{◌≡◌, ℕ, ◌+◌, ◌<◌, true, false, cond, is_some, List, [], ◌∷◌, ◌++◌, length, map, take, drop, get_or, Option, Some, None, sym, ap, ◌∙◌, arith, append_assoc, Bor}
use Rattle.std.specs.List.{position, enumerate_from}
use Rattle.std.specs.Str.{bytes_eq}
use Rattle.std.proofs.lemmas.Bool.Decides.{nat_tests}
use Rattle.std.proofs.lemmas.List.{length-map, length-take, map_push, take_more, drop_more}
use Rattle.text_parts.specs.Views.{nows}
use Rattle.text_parts.proofs.Places.{any_position}
use Rattle.scan_model.specs.declared.circuit.Pin.{Pin}
use Rattle.scan_model.specs.Words.{has_word}
use Rattle.scan_model.specs.NetlistText.{net_number}
use Rattle.bench_reader.specs.declared.first_round.Use.{Use}
use Rattle.bench_reader.specs.NetUses.{NamedUse, use_view, use_views, operand_use, use_pin, undefined_use}
use Rattle.bench_reader.proofs.FirstRound.{enumerate_from_push}

pub operand_used : (line net i : ℕ) (front uses new : List NamedUse) (ops : List (Bor (List ℕ))) (d : Bor (List ℕ)) → i < length ops
    → uses ≡ front ++ map (operand_use line net) (enumerate_from 0 (nows (take i ops)))
    → new ≡ uses ++ operand_use line net (i, (get_or ops i d).now) ∷ []
    → new ≡ front ++ map (operand_use line net) (enumerate_from 0 (nows (take (i + 1) ops)))
operand_used line net i front uses new ops d lt so_far pushed =
    let w : List ℕ = (get_or ops i d).now in
    let more : nows (take (i + 1) ops) ≡ nows (take i ops) ++ w ∷ [] = ap nows (take_more ops i d lt) ∙ map_push (λ x. x.now) (take i ops) (get_or ops i d) in
    let at : 0 + length (nows (take i ops)) ≡ i = omega (arith, length-map (take i ops) (λ x. x.now), length-take i ops) in
    let listed : map (operand_use line net) (enumerate_from 0 (nows (take (i + 1) ops))) ≡ map (operand_use line net) (enumerate_from 0 (nows (take i ops))) ++ operand_use line net (i, w) ∷ [] =
    ap (λ xs. map (operand_use line net) (enumerate_from 0 xs)) more
    ∙ ap (map (operand_use line net)) (enumerate_from_push 0 (nows (take i ops)) w)
    ∙ map_push (operand_use line net) (enumerate_from 0 (nows (take i ops))) (0 + length (nows (take i ops)), w)
    ∙ ap (λ k. map (operand_use line net) (enumerate_from 0 (nows (take i ops))) ++ operand_use line net (k, w) ∷ []) at in
    pushed
    ∙ ap (λ us. us ++ operand_use line net (i, w) ∷ []) so_far
    ∙ append_assoc front (map (operand_use line net) (enumerate_from 0 (nows (take i ops)))) (operand_use line net (i, w) ∷ [])
    ∙ ap (λ us. front ++ us) (sym listed)

pub number_added : (defined : List (List ℕ)) (number i : ℕ) (numbers new : List ℕ) (names : List (Bor (List ℕ))) (d : Bor (List ℕ)) → i < length names
    → number ≡ net_number defined (get_or names i d).now → numbers ≡ map (net_number defined) (nows (take i names)) → new ≡ numbers ++ number ∷ []
    → new ≡ map (net_number defined) (nows (take (i + 1) names))
number_added defined number i numbers new names d lt is so_far pushed =
    let w : List ℕ = (get_or names i d).now in
    let more : nows (take (i + 1) names) ≡ nows (take i names) ++ w ∷ [] = ap nows (take_more names i d lt) ∙ map_push (λ x. x.now) (take i names) (get_or names i d) in
    pushed
    ∙ ap (λ ns. ns ++ number ∷ []) so_far
    ∙ ap (λ k. map (net_number defined) (nows (take i names)) ++ k ∷ []) is
    ∙ sym (ap (map (net_number defined)) more ∙ map_push (net_number defined) (nows (take i names)) w)

module _ (defined : List (List ℕ)) (n : List ℕ) where
  -- a name that is found has the number of its net
  pub found_number : (i : ℕ) → Some i ≡ position (bytes_eq n) defined → i ≡ net_number defined n
  found_number i e = grind (arith, nat_tests)

  pub found_word : (i : ℕ) → Some i ≡ position (bytes_eq n) defined → has_word defined n ≡ true
  found_word i e = sym (any_position (bytes_eq n) defined) ∙ ap is_some (sym e)

  pub no_word : None ≡ position (bytes_eq n) defined → has_word defined n ≡ false
  no_word e = sym (any_position (bytes_eq n) defined) ∙ ap is_some (sym e)

-- one more use, among those from the place i on
module _ (defined : List (List ℕ)) (items : List Use) (i : ℕ) (d : Use) (lt : i < length items) where
  split : undefined_use defined (use_views (drop i items)) ≡ cond (has_word defined (get_or items i d).name.now) (undefined_use defined (use_views (drop (i + 1) items))) (Some (get_or items i d).line)
  split = ap (λ us. undefined_use defined (use_views us)) (drop_more items i d lt)

  pub use_past : (total : Option ℕ) → has_word defined (get_or items i d).name.now ≡ true → undefined_use defined (use_views (drop i items)) ≡ total → undefined_use defined (use_views (drop (i + 1) items)) ≡ total
  use_past total known so_far = sym (split ∙ ap (λ b. cond b (undefined_use defined (use_views (drop (i + 1) items))) (Some (get_or items i d).line)) known) ∙ so_far

  pub use_here : (total : Option ℕ) → has_word defined (get_or items i d).name.now ≡ false → undefined_use defined (use_views (drop i items)) ≡ total → total ≡ Some (get_or items i d).line
  use_here total unknown so_far = sym so_far ∙ split ∙ ap (λ b. cond b (undefined_use defined (use_views (drop (i + 1) items))) (Some (get_or items i d).line)) unknown

  pub pin_added : (number : ℕ) (pins new : List Pin) → number ≡ net_number defined (get_or items i d).name.now
      → pins ≡ map (use_pin defined) (use_views (take i items)) → new ≡ pins ++ record { net = number; place = (get_or items i d).place } ∷ []
      → new ≡ map (use_pin defined) (use_views (take (i + 1) items))
  pin_added number pins new is so_far pushed =
      let u : Use = get_or items i d in
      let more : use_views (take (i + 1) items) ≡ use_views (take i items) ++ use_view u ∷ [] = ap use_views (take_more items i d lt) ∙ map_push use_view (take i items) u in
      pushed
      ∙ ap (λ ps. ps ++ record { net = number; place = u.place } ∷ []) so_far
      ∙ ap (λ k. map (use_pin defined) (use_views (take i items)) ++ record { net = k; place = u.place } ∷ []) is
      ∙ sym (ap (map (use_pin defined)) more ∙ map_push (use_pin defined) (use_views (take i items)) (use_view u))
