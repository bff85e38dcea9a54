-- Steps of the loops that cut a group of points.
use Rattle.std.proofs.Common.{◌≡◌, ℕ, ◌+◌, ◌<◌, Bool, true, false, not, cond, ◌||◌, ◌&&◌, eqb, ltb, List, [], ◌∷◌, length, get_or, set, take, min, refl, sym, ap, ◌∙◌, inl, inr, arith}
use Rattle.std.specs.Prelude.{All}
use Rattle.std.specs.List.{list_any}
use Rattle.std.proofs.lemmas.Bool.{cases_lt, cases_eq, eq-eqb, ne_eqb, lt-ltb, le-ltb}
use Rattle.std.proofs.lemmas.Grind.{get_or-set_at}
use Rattle.std.proofs.lemmas.List.{get_or-set_other}
use Rattle.std.proofs.lemmas.List.Elements.{All-head, All-tail}
use Rattle.std.proofs.lemmas.List.Folds.{list_any_more}
use Rattle.scan_model.specs.Coverage.{has_point}

min_of : (w a b : ℕ) → ltb w (min a b) ≡ (ltb w a && ltb w b)
min_of w a b = elim (cases_lt w a) [
  | inr no_first ↦ rw (le-ltb w a no_first, le-ltb w (min a b) (omega arith)) refl
  | inl first ↦ elim (cases_lt w b) [
    | inl second ↦ rw (lt-ltb w a first, lt-ltb w b second, lt-ltb w (min a b) (omega arith)) refl
    | inr no_second ↦ rw (lt-ltb w a first, le-ltb w b no_second, le-ltb w (min a b) (omega arith)) refl
  ]
]

cut_here : (old has reached : Bool) → ((old && (not has || reached)) && reached) ≡ (old && (not (has || true) || reached))
cut_here true true true = refl
cut_here true true false = refl
cut_here true false true = refl
cut_here true false false = refl
cut_here false has reached = refl

or_false : (b : Bool) → (b || false) ≡ b
or_false true = refl
or_false false = refl

-- one more point of the group
pub cut_on : (ends0 ends1 group : List ℕ) (i end w k : ℕ) (reached : Bool) → i < length group → get_or group i 0 < length ends1
    → (k ≡ get_or group i 0 → ltb w end ≡ reached)
    → ltb w (get_or ends1 k 0) ≡ (ltb w (get_or ends0 k 0) && (not (has_point (take i group) k) || reached))
    → ltb w (get_or (set ends1 (get_or group i 0) (min (get_or ends1 (get_or group i 0) 0) end)) k 0) ≡ (ltb w (get_or ends0 k 0) && (not (has_point (take (i + 1) group) k) || reached))
cut_on ends0 ends1 group i end w k reached lt inside ends so_far =
    let p = get_or group i 0 in
    let more = list_any_more (λ m. eqb k m) group i 0 lt in
    elim (cases_eq k p) [
      | inl same ↦
          ap (λ (n : ℕ). ltb w n) (get_or-set_at ends1 p k (min (get_or ends1 p 0) end) 0 same inside)
          ∙ min_of w (get_or ends1 p 0) end
          ∙ ap (λ (b : Bool). b && ltb w end) (ap (λ (n : ℕ). ltb w (get_or ends1 n 0)) (sym same) ∙ so_far)
          ∙ ap (λ (b : Bool). (ltb w (get_or ends0 k 0) && (not (has_point (take i group) k) || reached)) && b) (ends same)
          ∙ cut_here (ltb w (get_or ends0 k 0)) (has_point (take i group) k) reached
          ∙ sym (ap (λ (b : Bool). ltb w (get_or ends0 k 0) && (not b || reached)) (more ∙ ap (λ (b : Bool). has_point (take i group) k || b) (eq-eqb k p same)))
      | inr other ↦
          ap (λ (n : ℕ). ltb w n) (get_or-set_other ends1 p k (min (get_or ends1 p 0) end) 0 other) ∙ so_far
          ∙ sym (ap (λ (b : Bool). ltb w (get_or ends0 k 0) && (not b || reached)) (more ∙ ap (λ (b : Bool). has_point (take i group) k || b) (ne_eqb k p other) ∙ or_false (has_point (take i group) k)))
    ]

-- two tests that agree on each element of a list
pub list_any_where : {X : Type 0} (p q : X → Bool) → (xs : List X) → All (λ x. p x ≡ q x) xs → list_any p xs ≡ list_any q xs
list_any_where p q [] same = refl
list_any_where p q (x ∷ xs) same = ap (λ (b : Bool). b || list_any p xs) (All-head (λ y. p y ≡ q y) x xs same) ∙ ap (λ (b : Bool). q x || b) (list_any_where p q xs (All-tail (λ y. p y ≡ q y) x xs same))

pub marked : (has : Bool) (mark : Bool) → mark ≡ false → cond has true mark ≡ has
marked true mark is = refl
marked false mark is = is

pub unmarked : (has : Bool) (mark : Bool) → mark ≡ false → cond has false (cond has true mark) ≡ false
unmarked true mark is = refl
unmarked false mark is = is

-- ---- ends and marks are written
-- one more end is set
pub ends_on : (ends : List ℕ) (p k end w : ℕ) (reached : ℕ → Bool) → p < length ends → k < p + 1 → ltb w end ≡ reached p → (k < p → ltb w (get_or ends k 0) ≡ reached k)
    → ltb w (get_or (set ends p end) k 0) ≡ reached k
ends_on ends p k end w reached inside lt here before = elim (cases_eq k p) [
  | inl same ↦ ap (λ (n : ℕ). ltb w n) (get_or-set_at ends p k end 0 same inside) ∙ here ∙ ap reached (sym same)
  | inr other ↦ ap (λ (n : ℕ). ltb w n) (get_or-set_other ends p k end 0 other) ∙ before (omega (arith, lt, other))
]

marked_now : (has mark old : Bool) → cond (has || true) mark old ≡ mark
marked_now true mark old = refl
marked_now false mark old = refl

-- one more point is marked
pub marks_on : (marks0 marks1 : List Bool) (group : List ℕ) (i k : ℕ) (mark : Bool) → i < length group → get_or group i 0 < length marks1
    → get_or marks1 k false ≡ cond (has_point (take i group) k) mark (get_or marks0 k false)
    → get_or (set marks1 (get_or group i 0) mark) k false ≡ cond (has_point (take (i + 1) group) k) mark (get_or marks0 k false)
marks_on marks0 marks1 group i k mark lt inside so_far =
    let p = get_or group i 0 in
    let has = has_point (take i group) k in
    let old = get_or marks0 k false in
    let more = list_any_more (λ m. eqb k m) group i 0 lt in
    elim (cases_eq k p) [
      | inl same ↦ get_or-set_at marks1 p k mark false same inside ∙ sym (ap (λ (b : Bool). cond b mark old) (more ∙ ap (λ (b : Bool). has || b) (eq-eqb k p same)) ∙ marked_now has mark old)
      | inr other ↦ get_or-set_other marks1 p k mark false other ∙ so_far ∙ sym (ap (λ (b : Bool). cond b mark old) (more ∙ ap (λ (b : Bool). has || b) (ne_eqb k p other) ∙ or_false has))
    ]
