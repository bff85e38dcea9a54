-- A fail line that names an output or a cell names one point.
use Rattle.std.proofs.Common.{◌≡◌, ℕ, ◌+◌, ◌*◌, ◌/◌, ◌%◌, ◌<◌, Bool, true, false, not, ◌||◌, ◌&&◌, eqb, List, [], ◌∷◌, ◌++◌, length, get_or, Option, Some, None, refl, sym, ap, ◌∙◌, inl, inr, arith}
use Rattle.std.specs.Prelude.{filter_map, slice_index, bytes_eq, option_to_list}
use Rattle.std.specs.List.{list_any, position_or_len, IsDistinct, AllByRecursion}
use Rattle.std.specs.Cmp.Lexicographic.{bytes_decides}
use Rattle.std.proofs.lemmas.Bool.{cases_Bool, cases_eq, cases_lt, both_ways, eq-eqb, ne_eqb, ltb-true}
use Rattle.std.proofs.lemmas.Nat.{div-mul-add, mod-mul-add}
use Rattle.std.proofs.lemmas.List.{get_or_past}
use Rattle.std.proofs.lemmas.List.Elements.{All-get_or}
use Rattle.std.proofs.lemmas.List.Folds.{Any-from_list_any, list_any-append}
use Rattle.std.proofs.lemmas.List.Sums.{passes_at_first, fails_before_first}
use Rattle.std.proofs.lemmas.Map.Keys.{apart_from_distinct}
use Rattle.scan_model.specs.declared.parts.Point.{Point}
use Rattle.scan_model.specs.declared.parts.Point.TheVariants.{Output, Cell}
use Rattle.scan_model.specs.LogText.{LogFrame, LogLine, die_line, design_line, tested_line, out_line, cell_line, cut_out_line, cut_chain_line, end_line, truncated_line, other_line, pattern_named, is_nowhere, names_point, is_listed, number}
use Rattle.fail_logs.specs.BitNumbers.{place_in, point_named, number_named, numbers_named}
use Rattle.fail_logs.specs.FrameFacts.{IsFrame, IsPointIn, point_in}
use Rattle.fail_logs.proofs.RisingLists.{has_number}
use Rattle.fail_logs.proofs.Later.{or_false}

pub found_by_any : {X : Type 0} (p : X → Bool) (xs : List X) → list_any p xs ≡ true → position_or_len p xs < length xs
found_by_any p xs some =
    let at = Any-from_list_any p xs some in
    elim (cases_lt (position_or_len p xs) (length xs)) [
      | inl lt ↦ lt
      | inr le ↦ absurd (both_ways (p (get_or xs at.0 at.1)) (fails_before_first p xs at.0 at.1 (omega (arith, at.2))) (ap p at.3 ∙ at.4))
    ]

-- where names differ, a word is the name at its place and no other
name_at : (ns : List (List ℕ)) (w : List ℕ) (j : ℕ) → IsDistinct bytes_eq ns → position_or_len (bytes_eq w) ns < length ns → j < length ns → bytes_eq w (get_or ns j []) ≡ eqb j (position_or_len (bytes_eq w) ns)
name_at ns w j differ found lt =
    let q : ℕ = position_or_len (bytes_eq w) ns in
    let is : bytes_eq w (get_or ns q []) ≡ true = passes_at_first (bytes_eq w) ns [] found in
    let e : w ≡ get_or ns q [] = (bytes_decides w (get_or ns q [])).0 is in
    elim (cases_eq j q) [
      | inl same ↦ ap (λ i. bytes_eq w (get_or ns i [])) same ∙ is ∙ sym (eq-eqb j q same)
      | inr other ↦ elim (cases_Bool (bytes_eq w (get_or ns j []))) [
        | inl named ↦
            let same : get_or ns j [] ≡ get_or ns q [] = sym ((bytes_decides w (get_or ns j [])).0 named) ∙ e in
            elim (cases_lt j q) [
              | inl before ↦ absurd (both_ways (bytes_eq (get_or ns j []) (get_or ns q [])) (apart_from_distinct bytes_eq ns j q [] differ before found) ((bytes_decides (get_or ns j []) (get_or ns q [])).1 same))
              | inr le ↦ absurd (both_ways (bytes_eq (get_or ns q []) (get_or ns j [])) (apart_from_distinct bytes_eq ns q j [] differ (omega (arith, other)) lt) ((bytes_decides (get_or ns q []) (get_or ns j [])).1 (sym same)))
            ]
        | inr none ↦ none ∙ sym (ne_eqb j q other)
      ]
    ]

pub within : (xs : List ℕ) (q i : ℕ) → i < slice_index xs q → q < length xs
within xs q i lt = elim (cases_lt q (length xs)) [ inl h ↦ h | inr past ↦ absurd (omega (arith, get_or_past xs q 0 past)) ]

pub turned : (a b : Bool) → a ≡ not b → b ≡ not a
turned a true e = sym (ap not e)
turned a false e = sym (ap not e)

pub holds : (b : Bool) → not b ≡ false → b ≡ true
holds true e = refl
holds false e = absurd cc

module _ (frame : LogFrame) (rows : List (List ℕ)) (sound : IsFrame frame rows) where
  point_is : (k : ℕ) (s : Point) → k < length frame.points → point_in frame k ≡ s → IsPointIn frame s
  point_is k s lt e = rw e at (All-get_or (IsPointIn frame) frame.points k (Output 0) lt sound.points)

  out_named : (p n : List ℕ) (k : ℕ) → list_any (bytes_eq n) frame.outputs ≡ true → k < length frame.points → (s : Point) → point_in frame k ≡ s → names_point frame s (out_line p n) ≡ eqb k (position_or_len (bytes_eq n) frame.outputs)
  out_named p n k some lt (Output j) e =
      let q : ℕ = position_or_len (bytes_eq n) frame.outputs in
      let in_range : j < length frame.outputs = point_is k (Output j) lt e in
      let j_stands = sound.outputs j in_range in
      let k_is : k ≡ j = sound.points_differ k j lt j_stands.0 (e ∙ sym j_stands.1) in
      name_at frame.outputs n j sound.outputs_differ (found_by_any (bytes_eq n) frame.outputs some) in_range ∙ ap (λ i. eqb i q) (sym k_is)
  out_named p n k some lt (Cell h i) e =
      let q : ℕ = position_or_len (bytes_eq n) frame.outputs in
      let at = sound.outputs q (found_by_any (bytes_eq n) frame.outputs some) in
      sym (ne_eqb k q (λ same. let bad : Cell h i ≡ Output q = sym e ∙ ap (point_in frame) same ∙ at.1 in cc))

  cell_named : (p c w : List ℕ) (k : ℕ) → number w < slice_index frame.lengths (position_or_len (bytes_eq c) frame.chains) → k < length frame.points → (s : Point) → point_in frame k ≡ s
      → names_point frame s (cell_line p c w) ≡ eqb k (place_in rows (position_or_len (bytes_eq c) frame.chains) (number w))
  cell_named p c w k inside lt (Output j) e =
      let q : ℕ = position_or_len (bytes_eq c) frame.chains in
      let at = sound.cells q (number w) inside in
      sym (ne_eqb k (place_in rows q (number w)) (λ same. let bad : Output j ≡ Cell q (number w) = sym e ∙ ap (point_in frame) same ∙ at.1 in cc))
  cell_named p c w k inside lt (Cell h i) e =
      let q : ℕ = position_or_len (bytes_eq c) frame.chains in
      let pos : ℕ = number w in
      let place : ℕ = place_in rows q pos in
      let at = sound.cells q pos inside in
      let found : q < length frame.chains = omega (arith, sound.lengths, within frame.lengths q pos inside) in
      let name : bytes_eq c (get_or frame.chains h []) ≡ eqb h q = name_at frame.chains c h sound.chains_differ found (point_is k (Cell h i) lt e) in
      let same_cell : k ≡ place → Cell h i ≡ Cell q pos = λ same. sym e ∙ ap (point_in frame) same ∙ at.1 in
      elim (cases_eq h q) [
        | inl chain ↦ elim (cases_eq pos i) [
          | inl both ↦
              let cell : Cell h i ≡ Cell q pos = cc in
              let k_is : k ≡ place = sound.points_differ k place lt at.0 (e ∙ cell ∙ sym at.1) in
              rw (name, eq-eqb h q chain, eq-eqb pos i both) (sym (eq-eqb k place k_is))
          | inr other ↦ rw (name, eq-eqb h q chain, ne_eqb pos i other) (sym (ne_eqb k place (λ same. other (let cell = same_cell same in cc))))
        ]
        | inr other ↦ rw (name, ne_eqb h q other) (sym (ne_eqb k place (λ same. other (let cell = same_cell same in cc))))
      ]

  pub point_named-is : (l : LogLine) (p k : ℕ) → pattern_named l ≡ Some p → is_nowhere frame l ≡ false → k < length frame.points → names_point frame (point_in frame k) l ≡ eqb k (point_named frame rows l)
  point_named-is (out_line w n) p k some somewhere lt = out_named w n k (holds _ somewhere) lt (point_in frame k) refl
  point_named-is (cell_line w c pos) p k some somewhere lt = cell_named w c pos k (ltb-true _ _ (holds _ somewhere)) lt (point_in frame k) refl
  point_named-is (die_line w) p k some somewhere lt = absurd cc
  point_named-is (design_line w) p k some somewhere lt = absurd cc
  point_named-is (tested_line a b) p k some somewhere lt = absurd cc
  point_named-is cut_out_line p k some somewhere lt = absurd cc
  point_named-is (cut_chain_line w) p k some somewhere lt = absurd cc
  point_named-is end_line p k some somewhere lt = absurd cc
  point_named-is truncated_line p k some somewhere lt = absurd cc
  point_named-is other_line p k some somewhere lt = absurd cc

  pub point_named-below : (l : LogLine) (p : ℕ) → pattern_named l ≡ Some p → is_nowhere frame l ≡ false → point_named frame rows l < length frame.points
  point_named-below (out_line w n) p some somewhere = (sound.outputs (position_or_len (bytes_eq n) frame.outputs) (found_by_any (bytes_eq n) frame.outputs (holds _ somewhere))).0
  point_named-below (cell_line w c pos) p some somewhere = (sound.cells (position_or_len (bytes_eq c) frame.chains) (number pos) (ltb-true _ _ (holds _ somewhere))).0
  point_named-below (die_line w) p some somewhere = absurd cc
  point_named-below (design_line w) p some somewhere = absurd cc
  point_named-below (tested_line a b) p some somewhere = absurd cc
  point_named-below cut_out_line p some somewhere = absurd cc
  point_named-below (cut_chain_line w) p some somewhere = absurd cc
  point_named-below end_line p some somewhere = absurd cc
  point_named-below truncated_line p some somewhere = absurd cc
  point_named-below other_line p some somewhere = absurd cc

-- a number names one pattern and one point
same_number : (n p k q j : ℕ) → k < n → j < n → eqb (p * n + k) (q * n + j) ≡ (eqb p q && eqb j k)
same_number n p k q j k_lt j_lt =
    elim (cases_eq p q) [
      | inl pattern ↦ elim (cases_eq j k) [
        | inl point ↦ let both : p * n + k ≡ q * n + j = cc in rw (eq-eqb p q pattern, eq-eqb j k point) (eq-eqb _ _ both)
        | inr other ↦ rw (eq-eqb p q pattern, ne_eqb j k other) (ne_eqb _ _ (λ same. other (sym (mod-mul-add q n j j_lt) ∙ ap (λ x. x % n) (sym same) ∙ mod-mul-add p n k k_lt)))
      ]
      | inr other ↦ rw (ne_eqb p q other) (ne_eqb _ _ (λ same. other (sym (div-mul-add p n k k_lt) ∙ ap (λ x. x / n) same ∙ div-mul-add q n j j_lt)))
    ]

pub filter_map-cons : {X Y : Type 0} (f : X → Option Y) (x : X) (xs : List X) → filter_map f (x ∷ xs) ≡ option_to_list (f x) ++ filter_map f xs
filter_map-cons {X} {Y} f x xs = go (f x) refl
  where
    go : (o : Option Y) → f x ≡ o → filter_map f (x ∷ xs) ≡ option_to_list (f x) ++ filter_map f xs
    go None e = rw e refl
    go (Some y) e = rw e refl

module _ (frame : LogFrame) (rows : List (List ℕ)) (sound : IsFrame frame rows) (p k : ℕ) (lt : k < length frame.points) where
  one_listed : (l : LogLine) → is_nowhere frame l ≡ false
      → (list_any (λ q. eqb q p) (filter_map pattern_named (l ∷ [])) && names_point frame (point_in frame k) l) ≡ has_number (option_to_list (number_named frame rows l)) (p * length frame.points + k)
  one_listed l somewhere = go (pattern_named l) refl
    where
      go : (o : Option ℕ) → pattern_named l ≡ o → (list_any (λ q. eqb q p) (filter_map pattern_named (l ∷ [])) && names_point frame (point_in frame k) l) ≡ has_number (option_to_list (number_named frame rows l)) (p * length frame.points + k)
      go None e = rw e refl
      go (Some q) e =
          let named = point_named-is frame rows sound l q k e somewhere lt in
          let below = point_named-below frame rows sound l q e somewhere in
          rw (e, named, or_false (eqb q p), or_false (eqb (q * length frame.points + point_named frame rows l) (p * length frame.points + k)))
          (sym (same_number (length frame.points) q (point_named frame rows l) p k below lt))

  -- a fail line names the bit where its number is that of a fail line
  pub is_listed-is : (ls : List LogLine) → AllByRecursion (λ l. is_nowhere frame l ≡ false) ls → is_listed frame ls p (point_in frame k) ≡ has_number (numbers_named frame rows ls) (p * length frame.points + k)
  is_listed-is [] somewhere = refl
  is_listed-is (l ∷ ls) somewhere =
      let at : ℕ = p * length frame.points + k in
      ap (λ b. b || is_listed frame ls p (point_in frame k)) (one_listed l somewhere.0)
      ∙ ap (λ b. has_number (option_to_list (number_named frame rows l)) at || b) (is_listed-is ls somewhere.1)
      ∙ sym (list_any-append (λ x. eqb x at) (option_to_list (number_named frame rows l)) (numbers_named frame rows ls))
      ∙ ap (λ xs. has_number xs at) (sym (filter_map-cons (number_named frame rows) l ls))
