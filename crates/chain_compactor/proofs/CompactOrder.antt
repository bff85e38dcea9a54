-- Each output, and each channel in each cycle in which it shows something, stands among the compact points, and none stands there twice.
use Rattle.std.proofs.Common.{◌≡◌, ℕ, zero, suc, ◌+◌, ◌*◌, ◌<◌, ◌≤◌, true, ltb, List, [], ◌∷◌, length, map, get_or, refl, ap, subst, ◌∙◌, inl, inr, arith}
use Rattle.std.specs.Prelude.{All, flat_map, Contains}
use Rattle.std.specs.List.{range_with_len}
use Rattle.std.proofs.lemmas.Bool.{cases_Bool, cases_lt}
use Rattle.std.proofs.lemmas.Bool.Decides.{nat_tests}
use Rattle.std.proofs.lemmas.List.{get_or-map, length-map, map-append, length-append, get_or_append_left}
use Rattle.std.proofs.lemmas.List.FromFn.{get_or-map-range_with_len, length-map-range_with_len}
use Rattle.std.proofs.Math.Nat.{add-mul}
use Rattle.std.proofs.lemmas.List.Elements.{Contains-append_right}
use Rattle.scan_model.specs.declared.parts.Point.{Point}
use Rattle.scan_model.specs.declared.parts.Point.TheVariants.{Output, Cell}
use Rattle.fail_logs.specs.FrameFacts.{ArePoints, IsPointOf}
use Rattle.fail_logs.proofs.RisingLists.{Rising, Below, Rising-append, Rising-weaken, Rising-lt}
use Rattle.fail_logs.proofs.TestOrder.{contains_here, contains_later, in_cycles, rising_outputs, rising_blocks, map-flat_map}
use Rattle.compact_points.specs.Channels.{greatest, shown_in, points_over}
use Rattle.compact_points.proofs.PointsThere.{of_points}

-- ---- each stands there

in_shown : (u x : ℕ) (ns : List ℕ) (j : ℕ) → j < length ns → u < get_or ns j 0 → Contains (shown_in u x ns) (Cell (x + j) u)
in_shown u x [] j lt shows = absurd (omega arith)
in_shown u x (n ∷ ns) zero lt shows =
    let yes_here : ltb u n ≡ true = grind (arith, nat_tests, shows) in
    let s : x + 0 ≡ x = omega arith in
    rw (yes_here, s) (contains_here (Cell x u) (shown_in u (x + 1) ns))
in_shown u x (n ∷ ns) (suc j) lt shows =
    let s : (x + 1) + j ≡ x + suc j = omega arith in
    let later : Contains (shown_in u (x + 1) ns) (Cell (x + suc j) u) = subst (λ (m : ℕ). Contains (shown_in u (x + 1) ns) (Cell m u)) s (in_shown u (x + 1) ns j (omega arith) shows) in
    elim (cases_Bool (ltb u n)) [
      | inl shows_n ↦ rw shows_n (contains_later (Cell x u) (Cell (x + suc j) u) (shown_in u (x + 1) ns) later)
      | inr not_there ↦ rw not_there later
    ]

pub greatest-above : (ns : List ℕ) (j : ℕ) → j < length ns → get_or ns j 0 ≤ greatest ns
greatest-above [] j lt = absurd (omega arith)
greatest-above (n ∷ ns) zero lt = omega arith
greatest-above (n ∷ ns) (suc j) lt = omega (arith, greatest-above ns j (omega arith))

-- past the end of the channels there is no cycle
within : (ns : List ℕ) (x u : ℕ) → u < get_or ns x 0 → x < length ns
within [] x u lt = absurd (omega arith)
within (n ∷ ns) zero u lt = omega arith
within (n ∷ ns) (suc x) u lt = omega (arith, within ns x u lt)

-- ---- none stands there twice

rising_shown : (f : Point → ℕ) (base u x : ℕ) (ns : List ℕ) → ((j : ℕ) → j < length ns → f (Cell (x + j) u) ≡ base + (x + j))
    → Rising (base + x) (map f (shown_in u x ns)) × Below (base + (x + length ns)) (map f (shown_in u x ns))
rising_shown f base u x [] is = (tt, tt)
rising_shown f base u x (n ∷ ns) is =
    let later_is : (j : ℕ) → j < length ns → f (Cell ((x + 1) + j) u) ≡ base + ((x + 1) + j) = λ j lt.
    let s : x + suc j ≡ (x + 1) + j = omega arith in
    subst (λ (m : ℕ). f (Cell m u) ≡ base + m) s (is (suc j) (omega arith)) in
    let rest = rising_shown f base u (x + 1) ns later_is in
    let up : base + (x + 1) ≡ (base + x) + 1 = omega arith in
    let end : base + ((x + 1) + length ns) ≡ base + (x + suc (length ns)) = omega arith in
    let rises : Rising ((base + x) + 1) (map f (shown_in u (x + 1) ns)) = rw up at rest.0 in
    let below : Below (base + (x + suc (length ns))) (map f (shown_in u (x + 1) ns)) = rw end at rest.1 in
    elim (cases_Bool (ltb u n)) [
      | inl shows ↦
          let s : x + 0 ≡ x = omega arith in
          let e : f (Cell x u) ≡ base + x = subst (λ (m : ℕ). f (Cell m u) ≡ base + m) s (is 0 (omega arith)) in
          rw (shows, e) ((omega arith, rises), (omega arith, below))
      | inr not_there ↦ rw not_there (Rising-weaken (base + x) ((base + x) + 1) _ (omega arith) rises, below)
    ]

-- a number for each compact point that rises in their order
abbrev order_of : ℕ → ℕ → Point → ℕ
order_of outputs channels (Output k) = k
order_of outputs channels (Cell x u) = outputs + u * channels + x

module _ (outputs : ℕ) (cycles : List ℕ) where
  abbrev points : List Point
  points = points_over outputs cycles

  abbrev front : List Point
  front = map (λ k. Output k) (range_with_len 0 outputs)

  abbrev behind : List Point
  behind = flat_map (λ u. shown_in u 0 cycles) (range_with_len 0 (greatest cycles))

  abbrev order : Point → ℕ
  order = order_of outputs (length cycles)

  outputs_lead : (k : ℕ) → k < outputs → (k < length points) × (get_or points k (Output 0) ≡ Output k)
  outputs_lead k lt =
      let count : length front ≡ outputs = length-map-range_with_len (λ k. Output k) 0 outputs in
      (omega (arith, length-append front behind), get_or_append_left front behind (Output 0) k (omega arith) ∙ get_or-map-range_with_len (λ k. Output k) 0 outputs k k (Output 0) lt (omega arith))

  channel_stands : (x u : ℕ) → u < get_or cycles x 0 → Contains points (Cell x u)
  channel_stands x u shows =
      let lt : x < length cycles = within cycles x u shows in
      let zero_plus : 0 + x ≡ x = omega arith in
      let here : Contains (shown_in u 0 cycles) (Cell x u) = rw zero_plus at (in_shown u 0 cycles x lt shows) in
      Contains-append_right front behind (Cell x u) (in_cycles (λ u. shown_in u 0 cycles) (Cell x u) 0 (greatest cycles) u (omega arith) (omega (arith, greatest-above cycles x lt)) here)

  all_within : All (IsPointOf outputs (length cycles)) points
  all_within = of_points (IsPointOf outputs (length cycles)) outputs cycles (λ k inside. inside) (λ x u inside. inside)

  cycle_order : (u : ℕ) → Rising (outputs + u * length cycles) (map order (shown_in u 0 cycles)) × Below (outputs + (u + 1) * length cycles) (map order (shown_in u 0 cycles))
  cycle_order u =
      let base : ℕ = outputs + u * length cycles in
      let both = rising_shown order base u 0 cycles (λ j lt. refl) in
      let low : base + 0 ≡ base = omega arith in
      let high : base + (0 + length cycles) ≡ outputs + (u + 1) * length cycles = omega (arith, add-mul u 1 (length cycles)) in
      (rw low at both.0, rw high at both.1)

  order_rises : Rising 0 (map order points)
  order_rises =
      let lead = rising_outputs order 0 outputs (λ k. refl) in
      let s : 0 + outputs ≡ outputs = omega arith in
      let below : Below outputs (map order front) = rw s at lead.1 in
      let start : outputs + 0 * length cycles ≡ outputs = omega arith in
      let cells : Rising outputs (flat_map (λ u. map order (shown_in u 0 cycles)) (range_with_len 0 (greatest cycles))) =
      rw start at (rising_blocks (λ u. map order (shown_in u 0 cycles)) outputs (length cycles) 0 (greatest cycles) cycle_order) in
      rw (map-append order front behind, map-flat_map order (λ u. shown_in u 0 cycles) (range_with_len 0 (greatest cycles)))
      (Rising-append 0 outputs (map order front) _ (omega arith) lead.0 below cells)

  order_at : (j k : ℕ) → j < k → k < length points → order (get_or points j (Output 0)) < order (get_or points k (Output 0))
  order_at j k lt inside =
      let n : length (map order points) ≡ length points = length-map points order in
      let at : (i : ℕ) → i < length points → get_or (map order points) i 0 ≡ order (get_or points i (Output 0)) = λ i h. get_or-map order points i (Output 0) 0 h in
      omega (arith, Rising-lt 0 (map order points) j k order_rises lt (omega arith), at j (omega arith), at k inside)

  points_differ : (j k : ℕ) → j < length points → k < length points → get_or points j (Output 0) ≡ get_or points k (Output 0) → j ≡ k
  points_differ j k j_in k_in same =
      let e : order (get_or points j (Output 0)) ≡ order (get_or points k (Output 0)) = ap order same in
      elim (cases_lt j k) [
        | inl lt ↦ absurd (omega (arith, order_at j k lt k_in))
        | inr le ↦ elim (cases_lt k j) [
          | inl lt ↦ absurd (omega (arith, order_at k j lt j_in))
          | inr ge ↦ omega arith
        ]
      ]

  pub points_are : ArePoints outputs cycles points
  points_are = record { outputs_first = outputs_lead; cells = channel_stands; within = all_within; differ = points_differ }
