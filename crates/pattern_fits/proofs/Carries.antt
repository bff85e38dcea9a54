-- Carries and borrows that ripple through slices.
use Rattle.std.proofs.Common.{◌≡◌, ℕ, zero, suc, ◌+◌, ◌*◌, ◌<◌, ◌≤◌, Bool, true, false, not, cond, eqb, ◌&&◌, ◌||◌, List, [], ◌∷◌, length, get_or, set, drop, refl, sym, ap, ◌∙◌, arith}
use Rattle.std.specs.List.{list_any}
use Rattle.std.proofs.Math.Nat.{mul_assoc}
use Rattle.bit_rows.specs.Lanes.{lane, differ}
use Rattle.pattern_fits.specs.LaneNumbers.{value, weight, one}

-- one slice replaced
pub value_set : (xs : List (List ℕ)) (i : ℕ) (x d : List ℕ) (j : ℕ) → i < length xs → value (set xs i x) j + weight i * one (lane (get_or xs i d) j) ≡ value xs j + weight i * one (lane x j)
value_set [] i x d j lt = absurd (omega arith)
value_set (s ∷ ss) zero x d j lt = omega arith
value_set (s ∷ ss) (suc i) x d j lt =
    let rest = value_set ss i x d j (omega arith) in
    rw (mul_assoc 2 (weight i) (one (lane (get_or ss i d) j)), mul_assoc 2 (weight i) (one (lane x j))) (omega (arith, rest))

pub half_sum : (a b : Bool) → one (differ a b) + 2 * one (a && b) ≡ one a + one b
half_sum true true = refl
half_sum true false = refl
half_sum false true = refl
half_sum false false = refl

pub half_difference : (a b : Bool) → one (differ a b) + one b ≡ one a + 2 * one (not a && b)
half_difference true true = refl
half_difference true false = refl
half_difference false true = refl
half_difference false false = refl

-- a slice and the carry become their sum and the next carry
pub carry_on : (total : ℕ) (xs : List (List ℕ)) (i : ℕ) (sum more carry d : List ℕ) (j : ℕ) → i < length xs → lane sum j ≡ differ (lane (get_or xs i d) j) (lane carry j) → lane more j ≡ (lane (get_or xs i d) j && lane carry j)
    → value xs j + weight i * one (lane carry j) ≡ total → value (set xs i sum) j + weight (i + 1) * one (lane more j) ≡ total
carry_on total xs i sum more carry d j lt is_sum is_more so_far =
    let at = value_set xs i sum d j lt in
    let next : weight (i + 1) ≡ 2 * weight i = ap weight (let step : i + 1 ≡ suc i = omega arith in step) in
    let halves : one (lane sum j) + 2 * one (lane more j) ≡ one (lane (get_or xs i d) j) + one (lane carry j) = rw (is_sum, is_more) (half_sum (lane (get_or xs i d) j) (lane carry j)) in
    let scaled : weight i * (one (lane sum j) + 2 * one (lane more j)) ≡ weight i * (one (lane (get_or xs i d) j) + one (lane carry j)) = ap (λ (n : ℕ). weight i * n) halves in
    rw next (grind (arith, at, scaled, so_far))

-- a slice less the borrow, and the next borrow
pub borrow_on : (start less : ℕ) (xs : List (List ℕ)) (i : ℕ) (rest more borrow d : List ℕ) (j : ℕ) → i < length xs → lane rest j ≡ differ (lane (get_or xs i d) j) (lane borrow j) → lane more j ≡ (not (lane (get_or xs i d) j) && lane borrow j)
    → value xs j + less ≡ start + weight i * one (lane borrow j) → value (set xs i rest) j + less ≡ start + weight (i + 1) * one (lane more j)
borrow_on start less xs i rest more borrow d j lt is_rest is_more so_far =
    let at = value_set xs i rest d j lt in
    let next : weight (i + 1) ≡ 2 * weight i = ap weight (let step : i + 1 ≡ suc i = omega arith in step) in
    let halves : one (lane rest j) + one (lane borrow j) ≡ one (lane (get_or xs i d) j) + 2 * one (lane more j) = rw (is_rest, is_more) (half_difference (lane (get_or xs i d) j) (lane borrow j)) in
    let scaled : weight i * (one (lane rest j) + one (lane borrow j)) ≡ weight i * (one (lane (get_or xs i d) j) + 2 * one (lane more j)) = ap (λ (n : ℕ). weight i * n) halves in
    rw next (grind (arith, at, scaled, so_far))

-- no carry is left where the total has room
pub no_carry : (v w total : ℕ) (b : Bool) → v + w * one b ≡ total → total < w → v ≡ total
no_carry v w total false is room = omega (arith, is)
no_carry v w total true is room = absurd (omega (arith, is, room))

-- a number has room in its slices
pub value_room : (xs : List (List ℕ)) (j : ℕ) → value xs j < weight (length xs)
value_room [] j = omega arith
value_room (s ∷ ss) j = bit (lane s j) (value ss j) (weight (length ss)) (value_room ss j)
  where
    bit : (b : Bool) (v w : ℕ) → v < w → one b + 2 * v < 2 * w
    bit true v w lt = omega (arith, lt)
    bit false v w lt = omega (arith, lt)

-- and no borrow where the start had enough
pub no_borrow : (v w less start : ℕ) (b : Bool) → v + less ≡ start + w * one b → less ≤ start → v < w → v + less ≡ start
no_borrow v w less start false is enough room = omega (arith, is)
no_borrow v w less start true is enough room = absurd (omega (arith, is, enough, room))

-- a number is 0 where no slice has its lane
pub value_zero : (xs : List (List ℕ)) (j : ℕ) → not (list_any (λ s. lane s j) xs) ≡ eqb (value xs j) 0
value_zero [] j = refl
value_zero (s ∷ ss) j = by (lane s j) (list_any (λ x. lane x j) ss) (value ss j) (value_zero ss j)
  where
    by : (b some : Bool) (v : ℕ) → not some ≡ eqb v 0 → not (b || some) ≡ eqb (one b + 2 * v) 0
    by true some zero is = refl
    by true some (suc v) is = grind arith
    by false some zero is = is
    by false some (suc v) is = is ∙ grind arith

-- the number from a slice on
pub value_drop : (xs : List (List ℕ)) (i : ℕ) (d : List ℕ) (j : ℕ) → i < length xs → value (drop i xs) j ≡ one (lane (get_or xs i d) j) + 2 * value (drop (suc i) xs) j
value_drop [] i d j lt = absurd (omega arith)
value_drop (s ∷ ss) zero d j lt = refl
value_drop (s ∷ ss) (suc i) d j lt = value_drop ss i d j (omega arith)

-- is no more than the whole
pub drop_less : (xs : List (List ℕ)) (i j : ℕ) → value (drop i xs) j ≤ value xs j
drop_less xs zero j = omega arith
drop_less [] (suc i) j = omega arith
drop_less (s ∷ ss) (suc i) j = omega (arith, drop_less ss i j)

pub none_carried : (v w total : ℕ) (b : Bool) → b ≡ false → v + w * one b ≡ total → v ≡ total
none_carried v w total b none is = let none_left : v + w * one false ≡ total = rw none at is in omega (arith, none_left)

pub none_borrowed : (v w total : ℕ) (b : Bool) → b ≡ false → v ≡ total + w * one b → v ≡ total
none_borrowed v w total b none is = let none_left : v ≡ total + w * one false = rw none at is in omega (arith, none_left)
