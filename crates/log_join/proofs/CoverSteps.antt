-- Steps of the loops that cover words of patterns.
use Rattle.std.proofs.Common.{◌≡◌, ℕ, ◌+◌, ◌*◌, ◌/◌, ◌%◌, Bool, true, false, ◌||◌, ◌&&◌, eqb, ltb, leb, List, get_or, refl, sym, ap, ◌∙◌, inl, inr, arith}
use Rattle.std.specs.Prelude.{bit_and}
use Rattle.std.specs.Int.{bit_at}
use Rattle.std.proofs.lemmas.Bool.{cases_lt, cases_eq, eq-eqb, ne_eqb, lt-ltb, le-ltb, le-leb}
use Rattle.scan_model.specs.BitTable.{table_bit}
use Rattle.scan_model.proofs.BitTables.{bit_of_and}

no_place : (e m : Bool) (old : Bool) → (((e && false) && m) || old) ≡ old
no_place true m old = refl
no_place false m old = refl

-- one more point of a word
pub covered_on : (w k word point : ℕ) (ends : List ℕ) (mask before : ℕ) (new so_far old : Bool)
    → new ≡ (((eqb (w / 64) word && eqb k point) && eqb (bit_at (bit_and mask before) (w % 64)) 1) || so_far)
    → eqb (bit_at before (w % 64)) 1 ≡ (leb 0 (64 * word + w % 64) && ltb (64 * word + w % 64) (get_or ends point 0))
    → so_far ≡ ((ltb k point && (eqb (w / 64) word && (eqb (bit_at mask (w % 64)) 1 && ltb w (get_or ends k 0)))) || old)
    → new ≡ ((ltb k (point + 1) && (eqb (w / 64) word && (eqb (bit_at mask (w % 64)) 1 && ltb w (get_or ends k 0)))) || old)
covered_on w k word point ends mask before new so_far old is masks so_far_is = elim (cases_eq k point) [
  | inl same ↦ elim (cases_eq (w / 64) word) [
    | inl here ↦
        let at : 64 * word + w % 64 ≡ w = omega (arith, here) in
        let end = ap (λ (n : ℕ). get_or ends n 0) (sym same) in
        is ∙ rw (so_far_is, bit_of_and mask before (w % 64), masks, at, le-leb 0 w (omega arith), end, eq-eqb (w / 64) word here, eq-eqb k point same, le-ltb k point (omega (arith, same)), lt-ltb k (point + 1) (omega (arith, same))) refl
    | inr elsewhere ↦ is ∙ rw (so_far_is, ne_eqb (w / 64) word elsewhere, le-ltb k point (omega (arith, same)), lt-ltb k (point + 1) (omega (arith, same))) refl
  ]
  | inr other ↦ is ∙ rw (so_far_is, ne_eqb k point other) (no_place (eqb (w / 64) word) (eqb (bit_at (bit_and mask before) (w % 64)) 1) _ ∙ elim (cases_lt k point) [
    | inl below ↦ rw (lt-ltb k point below, lt-ltb k (point + 1) (omega arith)) refl
    | inr above ↦ rw (le-ltb k point above, le-ltb k (point + 1) (omega (arith, other))) refl
  ])
]

-- ---- whole words
one_more_place : (e here below m old : Bool) → (((e && here) && m) || (((e && below) && m) || old)) ≡ (((e && (below || here)) && m) || old)
one_more_place false here below m old = refl
one_more_place true true true true old = refl
one_more_place true true true false old = refl
one_more_place true true false true old = refl
one_more_place true true false false old = refl
one_more_place true false true m old = refl
one_more_place true false false m old = refl

below_next : (k point : ℕ) → ltb k (point + 1) ≡ (ltb k point || eqb k point)
below_next k point = elim (cases_lt k point) [
  | inl below ↦ rw (lt-ltb k point below, lt-ltb k (point + 1) (omega arith)) refl
  | inr above ↦ elim (cases_eq k point) [
    | inl same ↦ rw (le-ltb k point above, eq-eqb k point same, lt-ltb k (point + 1) (omega (arith, same))) refl
    | inr other ↦ rw (le-ltb k point above, ne_eqb k point other, le-ltb k (point + 1) (omega (arith, other))) refl
  ]
]

-- one more point of a word that is covered at all points
pub whole_on : (w k word point mask : ℕ) (new so_far old : Bool)
    → new ≡ (((eqb (w / 64) word && eqb k point) && eqb (bit_at mask (w % 64)) 1) || so_far)
    → so_far ≡ (((eqb (w / 64) word && ltb k point) && eqb (bit_at mask (w % 64)) 1) || old)
    → new ≡ (((eqb (w / 64) word && ltb k (point + 1)) && eqb (bit_at mask (w % 64)) 1) || old)
whole_on w k word point mask new so_far old is so_far_is =
    let e = eqb (w / 64) word in
    let m = eqb (bit_at mask (w % 64)) 1 in
    is ∙ ap (λ (b : Bool). ((e && eqb k point) && m) || b) so_far_is ∙ one_more_place e (eqb k point) (ltb k point) m old
    ∙ sym (ap (λ (b : Bool). ((e && b) && m) || old) (below_next k point))

-- one more word
pub words_on : (tested ends : List ℕ) (w k word : ℕ) (new so_far old : Bool)
    → new ≡ ((eqb (w / 64) word && (eqb (bit_at (get_or tested word 0) (w % 64)) 1 && ltb w (get_or ends k 0))) || so_far)
    → so_far ≡ ((ltb (w / 64) word && (table_bit tested 1 w 0 && ltb w (get_or ends k 0))) || old)
    → new ≡ ((ltb (w / 64) (word + 1) && (table_bit tested 1 w 0 && ltb w (get_or ends k 0))) || old)
words_on tested ends w k word new so_far old is so_far_is =
    let ends_later = ltb w (get_or ends k 0) in
    let bit = λ (n : ℕ). eqb (bit_at (get_or tested n 0) (w % 64)) 1 in
    elim (cases_eq (w / 64) word) [
      | inl same ↦
          let at : w / 64 * 1 + 0 ≡ word = omega (arith, same) in
          is ∙ rw (so_far_is, eq-eqb (w / 64) word same, le-ltb (w / 64) word (omega (arith, same)))
          (ap (λ (b : Bool). (b && ends_later) || old) (sym (ap bit at))
          ∙ sym (ap (λ (b : Bool). (b && (table_bit tested 1 w 0 && ends_later)) || old) (lt-ltb (w / 64) (word + 1) (omega (arith, same)))))
      | inr other ↦
          is ∙ rw (so_far_is, ne_eqb (w / 64) word other, below_next (w / 64) word, ne_eqb (w / 64) word other) (kept (ltb (w / 64) word) (table_bit tested 1 w 0 && ends_later) old)
    ]
  where
    kept : (below here old : Bool) → ((below && here) || old) ≡ (((below || false) && here) || old)
    kept true here old = refl
    kept false here old = refl
