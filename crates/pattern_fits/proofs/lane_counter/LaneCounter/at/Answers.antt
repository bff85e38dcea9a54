use mir.Val.{bool_byte}
use Rattle.std.proofs.Common.{◌≡◌, ℕ, suc, Bool, true, false, ◌+◌, ◌-◌, ◌*◌, ◌<◌, ◌≤◌, List, length, drop, get_or, sym, ap, refl, ◌∙◌, arith}
use Rattle.bit_rows.specs.Lanes.{lane}
use Rattle.pattern_fits.specs.LaneNumbers.{value, weight, one}
use Rattle.pattern_fits.proofs.Carries.{value_drop, value_room, drop_less}
use Rattle.pattern_fits.proofs.lane_counter.LaneCounter.at.Goals as goal

small : (xs : List (List ℕ)) (i j number : ℕ) → length xs ≡ 24 → number ≡ value (drop i xs) j → number < 16777216
small xs i j number len is =
    let all : weight (length xs) ≡ 16777216 = ap weight len in
    omega (arith, is, all, drop_less xs i j, value_room xs j)

pub overflow_mul-number : goal.overflow_mul-number
overflow_mul-number c = record { fits = omega (arith, small c.self.inside.slices.items (24 - c.loop-k.k) c.args.j c.loop-k.number c.self.invariant c.loop-k.invariant) }

bit_is : (b : Bool) → bool_byte b ≡ one b
bit_is true = refl
bit_is false = refl

one_at_most : (b : Bool) → one b ≤ 1
one_at_most true = omega arith
one_at_most false = omega arith

pub overflow_add-number : goal.overflow_add-number
overflow_add-number c =
    let bit : c.from.result ≡ one c.has.result = c.from.ensures ∙ bit_is c.has.result in
    record { fits = omega (arith, small c.self.inside.slices.items (24 - c.loop-k.k) c.args.j c.loop-k.number c.self.invariant c.loop-k.invariant, bit, one_at_most c.has.result) }

pub loop-k-preserved : goal.loop-k-preserved
loop-k-preserved c =
    let xs = c.self.inside.slices.items in
    let k = c.loop-k.k in
    let i = 24 - 1 - k in
    let next : 24 - (k + 1) ≡ i = omega arith in
    let before : 24 - k ≡ suc i = omega (arith, c.loop-k-test.true) in
    let slice = c.index-slice.result.now in
    let bit : c.from.result ≡ one (lane (get_or xs i slice) c.args.j) = c.from.ensures ∙ bit_is c.has.result ∙ ap one (c.has.ensures ∙ ap (λ (s : List ℕ). lane s c.args.j) c.index-slice.ensures) in
    let so_far : c.loop-k.number ≡ value (drop (suc i) xs) c.args.j = c.loop-k.invariant ∙ ap (λ (n : ℕ). value (drop n xs) c.args.j) before in
    let step = value_drop xs i slice c.args.j (omega (arith, c.self.invariant, c.loop-k-test.true)) in
    let sum : 2 * c.loop-k.number + c.from.result ≡ value (drop i xs) c.args.j = omega (arith, bit, so_far, step) in
    sum ∙ ap (λ (n : ℕ). value (drop n xs) c.args.j) (sym next)

pub returns : goal.returns
returns c =
    let end : 24 - c.loop-k.k ≡ 0 = omega (arith, c.loop-k.auto.k-end, c.loop-k-test.false) in
    c.loop-k.invariant ∙ ap (λ (n : ℕ). value (drop n c.self.inside.slices.items) c.args.j) end ∙ ap (λ (xs : List (List ℕ)). value xs c.args.j) c.self.view_is
