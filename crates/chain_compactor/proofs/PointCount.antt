-- How many compact points there are: the outputs, and as many more as all channels have cycles.
use Rattle.std.proofs.Common.{◌≡◌, ℕ, zero, suc, ◌+◌, ◌-◌, ◌≤◌, min, ltb, List, [], ◌∷◌, ◌++◌, length, map, refl, ap, inl, inr, arith, length-append}
use Rattle.std.specs.Prelude.{flat_map, sum_by}
use Rattle.std.specs.List.{range_with_len}
use Rattle.std.proofs.lemmas.Bool.{cases_Bool, ltb-true, ltb-false}
use Rattle.std.proofs.lemmas.List.FromFn.{length-map-range_with_len}
use Rattle.std.proofs.lemmas.List.{map_push}
use Rattle.std.proofs.lemmas.List.Sums.{sum_by-cons, sum_by_push}
use Rattle.scan_model.specs.declared.parts.Point.TheVariants.{Output}
use Rattle.scan_model.specs.ScanTest.{ScanTest}
use Rattle.compact_points.specs.declared.compactor.Channel.{Channel}
use Rattle.compact_points.specs.Channels.{greatest, cycles_of, shown_in, points_over, compact_points}

abbrev pub total : List ℕ → ℕ
total ns = sum_by (λ (n : ℕ). n) ns

-- the cycles from a on show of the channels what they show of the first and of the others
first_apart : (x a n c : ℕ) (cs : List ℕ) → length (flat_map (λ u. shown_in u x (c ∷ cs)) (range_with_len a n)) ≡ (min (a + n) c - a) + length (flat_map (λ u. shown_in u (x + 1) cs) (range_with_len a n))
first_apart x a zero c cs = omega arith
first_apart x a (suc n) c cs =
    let rest = first_apart x (a + 1) n c cs in
    elim (cases_Bool (ltb a c)) [
      | inl shows ↦ rw (shows, length-append (shown_in a (x + 1) cs) (flat_map (λ u. shown_in u x (c ∷ cs)) (range_with_len (a + 1) n)), length-append (shown_in a (x + 1) cs) (flat_map (λ u. shown_in u (x + 1) cs) (range_with_len (a + 1) n)), rest) (omega (arith, ltb-true a c shows))
      | inr not_there ↦ rw (not_there, length-append (shown_in a (x + 1) cs) (flat_map (λ u. shown_in u x (c ∷ cs)) (range_with_len (a + 1) n)), length-append (shown_in a (x + 1) cs) (flat_map (λ u. shown_in u (x + 1) cs) (range_with_len (a + 1) n)), rest) (omega (arith, ltb-false a c not_there))
    ]

no_channels : (x : ℕ) (us : List ℕ) → length (flat_map (λ u. shown_in u x []) us) ≡ 0
no_channels x [] = refl
no_channels x (u ∷ us) = no_channels x us

all_shown : (x n : ℕ) (cs : List ℕ) → greatest cs ≤ n → length (flat_map (λ u. shown_in u x cs) (range_with_len 0 n)) ≡ total cs
all_shown x n [] le = no_channels x (range_with_len 0 n)
all_shown x n (c ∷ cs) le = rw (first_apart x 0 n c cs, all_shown (x + 1) n cs (omega arith), sum_by-cons (λ (m : ℕ). m) c cs) (omega arith)

pub length-points_over : (outputs : ℕ) (cycles : List ℕ) → length (points_over outputs cycles) ≡ outputs + total cycles
length-points_over outputs cycles =
    rw (length-append (map (λ k. Output k) (range_with_len 0 outputs)) (flat_map (λ u. shown_in u 0 cycles) (range_with_len 0 (greatest cycles))), length-map-range_with_len (λ k. Output k) 0 outputs)
    (ap (λ n. outputs + n) (all_shown 0 (greatest cycles) cycles (omega arith)))

greatest-le : (cs : List ℕ) → greatest cs ≤ total cs
greatest-le [] = omega arith
greatest-le (c ∷ cs) = omega (arith, greatest-le cs, sum_by-cons (λ (m : ℕ). m) c cs)

-- so many points, so many cycles at most
pub greatest-few : (outputs : ℕ) (cycles : List ℕ) (n : ℕ) → length (points_over outputs cycles) ≤ n → greatest cycles ≤ n
greatest-few outputs cycles n few = omega (arith, length-points_over outputs cycles, greatest-le cycles)

-- one channel more
pub points_more : (t : ScanTest) (xs : List Channel) (x : Channel) → length (compact_points t (xs ++ x ∷ [])) ≡ length (compact_points t xs) + cycles_of t x
points_more t xs x = omega (
  arith,
  length-points_over (length t.netlist.outputs) (map (cycles_of t) (xs ++ x ∷ [])),
  length-points_over (length t.netlist.outputs) (map (cycles_of t) xs),
  ap total (map_push (cycles_of t) xs x),
  sum_by_push (λ (m : ℕ). m) (map (cycles_of t) xs) (cycles_of t x),
)
