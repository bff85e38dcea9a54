-- What the numbers kept of a chain tell.
use Rattle.std.proofs.Common.{◌≡◌, ◌⊎◌, ℕ, ◌+◌, ◌-◌, ◌<◌, ◌≤◌, Bool, true, false, ltb, leb, ◌&&◌, ◌||◌, List, [], length, get_or, set, drop, Option, Some, None, refl, sym, ap, subst, ◌∙◌, inl, inr, arith}
use Rattle.std.specs.List.{list_any}
use Rattle.std.proofs.lemmas.Bool.{cases_Bool, cases_eq, cases_lt, both_ways, or_cases, or_left, or_right, and_parts, and_from, lt-ltb, ltb-true, le-leb, leb-true, eq-eqb, ne_eqb}
use Rattle.std.proofs.lemmas.List.{get_or_default, get_or-drop, length-drop, get_or-set_same, get_or-set_other}
use Rattle.std.proofs.lemmas.List.Folds.{list_any_at}
use Rattle.scan_model.proofs.FanSweeps.{any_found}
use Rattle.lane_rows.specs.Lanes.{lane}
use Rattle.explained_lanes.specs.Fails.{Tells}
use Rattle.scan_model.specs.declared.parts.Point.{Point}
use Rattle.scan_model.specs.declared.parts.Point.TheVariants.{Cell}
use Rattle.explained_lanes.specs.Traces.{lane_at, is_shifted_through, is_from, IsLastReached}
use Rattle.explained_lanes.proofs.ToldLanes.{tells_or, tells_same, tells_none}

-- ---- the first position

pub first_none : (row shift : List ℕ) (pos : ℕ) → ((j : ℕ) → j < 512 → lane row j ≡ false) → (c : ℕ) → Tells (is_from None c) (λ j. lane row j && (leb pos c || (lane shift j && ltb c pos)))
first_none row shift pos none c = tells_none (λ j. lane row j && (leb pos c || (lane shift j && ltb c pos))) (λ j lt. ap (λ (b : Bool). b && (leb pos c || (lane shift j && ltb c pos))) (none j lt))

pub first_own : (row shift both : List ℕ) (pos : ℕ) → (j : ℕ) × (j < 512) × (lane row j ≡ true) → ((j : ℕ) → j < 512 → lane both j ≡ (lane row j && lane shift j)) → ((j : ℕ) → j < 512 → lane both j ≡ false)
    → (c : ℕ) → Tells (is_from (Some pos) c) (λ j. lane row j && (leb pos c || (lane shift j && ltb c pos)))
first_own row shift both pos some is none c = record {
  found = λ e. (some.0, some.1, and_from (lane row some.0) (leb pos c || (lane shift some.0 && ltb c pos)) some.2 (or_left (leb pos c) (lane shift some.0 && ltb c pos) e));
  all = λ j lt e.
      let parts = and_parts (lane row j) (leb pos c || (lane shift j && ltb c pos)) e in
      elim (or_cases (leb pos c) (lane shift j && ltb c pos) parts.1) [
        | inl own ↦ own
        | inr shifted ↦ absurd (both_ways (lane both j) (none j lt) (is j lt ∙ and_from (lane row j) (lane shift j) parts.0 (and_parts (lane shift j) (ltb c pos) shifted).0))
      ];
}

pub first_all : (row shift both : List ℕ) (pos : ℕ) → (j : ℕ) × (j < 512) × (lane both j ≡ true) → ((j : ℕ) → j < 512 → lane both j ≡ (lane row j && lane shift j))
    → (c : ℕ) → Tells (is_from (Some 0) c) (λ j. lane row j && (leb pos c || (lane shift j && ltb c pos)))
first_all row shift both pos some is c = record {
  found = λ e.
      let j = some.0 in
      let parts = and_parts (lane row j) (lane shift j) (sym (is j some.1) ∙ some.2) in (
        j,
        some.1,
        and_from (lane row j) (leb pos c || (lane shift j && ltb c pos)) parts.0 (elim (cases_lt c pos) [
          | inl behind ↦ or_right (leb pos c) (lane shift j && ltb c pos) (and_from (lane shift j) (ltb c pos) parts.1 (lt-ltb c pos behind))
          | inr upto ↦ or_left (leb pos c) (lane shift j && ltb c pos) (le-leb pos c upto)
        ]),
      );
  all = λ j lt e. le-leb 0 c (omega arith);
}

pub first_less : (a b c : ℕ) → a < b → leb a c ≡ (leb a c || leb b c)
first_less a b c lt = elim (cases_Bool (leb a c)) [
  | inl early ↦ rw early refl
  | inr late ↦ rw late (elim (cases_Bool (leb b c)) [ inl upto ↦ absurd (both_ways (leb a c) late (le-leb a c (omega (arith, leb-true b c upto)))) | inr past ↦ sym past ])
]

pub first_not_less : (a b c : ℕ) → b ≤ a → leb b c ≡ (leb a c || leb b c)
first_not_less a b c le = elim (cases_Bool (leb b c)) [
  | inl early ↦ rw early (sym (or_right (leb a c) true refl))
  | inr late ↦ rw late (elim (cases_Bool (leb a c)) [ inl upto ↦ absurd (both_ways (leb b c) late (le-leb b c (omega (arith, leb-true a c upto)))) | inr past ↦ rw past refl ])
]

-- ---- the last position

pub record IsLastOf (reach : List (List ℕ)) (cells : List ℕ) (i last : ℕ) : Type 0 where
  pub there : (last ≡ 0) ⊎ ((last < i) × ((j : ℕ) × (j < 512) × (lane_at reach j (get_or cells last 0) ≡ true)))
  pub above : (m j : ℕ) → m < i → j < 512 → lane_at reach j (get_or cells m 0) ≡ true → m ≤ last

pub last_none : (reach : List (List ℕ)) (cells : List ℕ) → IsLastOf reach cells 0 0
last_none reach cells = record { there = inl refl; above = λ m j lt lj e. absurd (omega arith) }

pub last_here : (reach : List (List ℕ)) (cells row : List ℕ) (i last : ℕ) → row ≡ get_or reach (get_or cells i 0) [] → IsLastOf reach cells i last → (j : ℕ) × (j < 512) × (lane row j ≡ true) → IsLastOf reach cells (i + 1) i
last_here reach cells row i last is so_far some = record {
  there = inr (omega arith, (some.0, some.1, ap (λ (r : List ℕ). lane r some.0) (sym is) ∙ some.2));
  above = λ m j lt lj e. omega arith;
}

pub last_stays : (reach : List (List ℕ)) (cells row : List ℕ) (i last : ℕ) → row ≡ get_or reach (get_or cells i 0) [] → IsLastOf reach cells i last → ((j : ℕ) → j < 512 → lane row j ≡ false) → IsLastOf reach cells (i + 1) last
last_stays reach cells row i last is so_far none = record {
  there = elim so_far.there [ inl zero' ↦ inl zero' | inr at ↦ inr (omega (arith, at.0), at.1) ];
  above = λ m j lt lj e. elim (cases_eq m i) [
    | inl same ↦ absurd (both_ways (lane row j) (none j lj) (ap (λ (r : List ℕ). lane r j) is ∙ ap (λ (n : ℕ). lane_at reach j (get_or cells n 0)) (sym same) ∙ e))
    | inr other ↦ so_far.above m j (omega (arith, other)) lj e
  ];
}

pub last_is : (reach : List (List ℕ)) (cells : List ℕ) (i last : ℕ) → i ≡ length cells → IsLastOf reach cells i last → IsLastReached reach cells last
last_is reach cells i last whole is c = record { found = found; all = all }
  where
    found : ltb c last ≡ true → (j : ℕ) × (j < 512) × (list_any (lane_at reach j) (drop (c + 1) cells) ≡ true)
    found e =
        let lt = ltb-true c last e in
        elim is.there [
          | inl zero' ↦ absurd (omega (arith, zero', lt))
          | inr at ↦
              let k = last - (c + 1) in
              let place : c + 1 + k ≡ last = omega (arith, lt) in
              let within : k < length (drop (c + 1) cells) = omega (arith, length-drop (c + 1) cells, at.0, whole) in
              let same : get_or (drop (c + 1) cells) k 0 ≡ get_or cells last 0 = get_or-drop (c + 1) cells k 0 ∙ ap (λ (n : ℕ). get_or cells n 0) place in
              (at.1.0, at.1.1, list_any_at (lane_at reach at.1.0) (drop (c + 1) cells) k 0 within (ap (lane_at reach at.1.0) same ∙ at.1.2))
        ]

    all : (j : ℕ) → j < 512 → list_any (lane_at reach j) (drop (c + 1) cells) ≡ true → ltb c last ≡ true
    all j lj e =
        let r = any_found (lane_at reach j) (drop (c + 1) cells) e in
        let k = r.1.0 in
        let within : c + 1 + k < length cells = omega (arith, r.1.1, length-drop (c + 1) cells) in
        let at : get_or cells (c + 1 + k) 0 ≡ r.0 = sym (get_or-drop (c + 1) cells k 0) ∙ get_or_default (drop (c + 1) cells) k 0 r.0 r.1.1 ∙ r.1.2 in
        lt-ltb c last (omega (arith, is.above (c + 1 + k) j (omega (arith, whole)) lj (ap (lane_at reach j) at ∙ r.2)))

-- ---- the failing bits of one point more

to_true : (b : Bool) → (b || false) ≡ b
to_true true = refl
to_true false = refl

same_point : (row : List ℕ) (shift : List ℕ) (h g i c j : ℕ) → h ≡ g → (lane row j && (leb i c || (lane shift j && ltb c i))) ≡ (lane row j && is_shifted_through shift j h c (Cell g i))
same_point row shift h g i c j same = rw (eq-eqb g h (sym same)) refl

other_point : (row : List ℕ) (shift : List ℕ) (h g i c j : ℕ) → (h ≡ g → ⊥) → (lane row j && is_shifted_through shift j h c (Cell g i)) ≡ false
other_point row shift h g i c j other = rw (ne_eqb g h (λ e. other (sym e))) (ap (λ (b : Bool). lane row j && b) (no_more (lane shift j)) ∙ no_more (lane row j))
  where
    no_more : (b : Bool) → (b && false) ≡ false
    no_more true = refl
    no_more false = refl

pub taken_in : (firsts : List (Option ℕ)) (row shift : List ℕ) (g i : ℕ) (point : Point) (one new : Option ℕ) → point ≡ Cell g i → g < length firsts
    → ((c : ℕ) → Tells (is_from one c) (λ j. lane row j && (leb i c || (lane shift j && ltb c i)))) → ((c : ℕ) → is_from new c ≡ (is_from (get_or firsts g None) c || is_from one c))
    → (h c : ℕ) (told : ℕ → Bool) → h < length firsts → Tells (is_from (get_or firsts h None) c) told
    → Tells (is_from (get_or (set firsts g new) h None) c) (λ j. told j || (lane row j && is_shifted_through shift j h c point))
taken_in firsts row shift g i point one new at lt tells is h c told lh so_far = rw at (elim (cases_eq h g) [
  | inl same ↦
      let new_at : get_or (set firsts g new) h None ≡ new = ap (λ (k : ℕ). get_or (set firsts g new) k None) same ∙ get_or-set_same firsts g new None lt in
      let old_at : get_or firsts g None ≡ get_or firsts h None = ap (λ (k : ℕ). get_or firsts k None) (sym same) in
      let joined : is_from (get_or (set firsts g new) h None) c ≡ (is_from (get_or firsts h None) c || is_from one c) = ap (λ (o : Option ℕ). is_from o c) new_at ∙ is c ∙ ap (λ (o : Option ℕ). is_from o c || is_from one c) old_at in
      tells_same (is_from (get_or (set firsts g new) h None) c) (λ j. told j || (lane row j && (leb i c || (lane shift j && ltb c i)))) (λ j. told j || (lane row j && is_shifted_through shift j h c (Cell g i)))
      (λ j lj. ap (λ (b : Bool). told j || b) (same_point row shift h g i c j same))
      (tells_or (is_from (get_or firsts h None) c) (is_from one c) (is_from (get_or (set firsts g new) h None) c) told (λ j. lane row j && (leb i c || (lane shift j && ltb c i))) so_far (tells c) joined)
  | inr other ↦
      tells_same (is_from (get_or (set firsts g new) h None) c) told (λ j. told j || (lane row j && is_shifted_through shift j h c (Cell g i)))
      (λ j lj. sym (ap (λ (b : Bool). told j || b) (other_point row shift h g i c j other) ∙ to_true (told j)))
      (subst (λ (o : Option ℕ). Tells (is_from o c) told) (sym (get_or-set_other firsts g h new None other)) so_far)
])
