-- Each output and each cell of a test stands in test order, and no point stands there twice.
use Rattle.std.proofs.Common.{◌≡◌, ℕ, zero, suc, ◌+◌, ◌-◌, ◌*◌, ◌<◌, ◌≤◌, true, ltb, List, [], ◌∷◌, ◌++◌, length, map, get_or, refl, ap, subst, ◌∙◌, inl, inr, arith}
use Rattle.std.specs.Prelude.{flat_map, Contains}
use Rattle.std.specs.List.{range_with_len}
use Rattle.std.proofs.lemmas.Bool.{cases_Bool, cases_lt, ltb-true}
use Rattle.std.proofs.lemmas.Bool.Decides.{nat_tests}
use Rattle.std.proofs.lemmas.List.{get_or-map, length-map, map-append}
use Rattle.std.proofs.Math.Nat.{add-mul}
use Rattle.std.proofs.lemmas.List.Elements.{Contains-append_left, Contains-append_right}
use Rattle.scan_model.specs.declared.parts.Chain.{Chain}
use Rattle.scan_model.specs.declared.parts.Point.{Point}
use Rattle.scan_model.specs.declared.parts.Point.TheVariants.{Output, Cell}
use Rattle.scan_model.specs.ScanTest.{ScanTest, no_chain, chain_at, cycle, longest, points_of}
use Rattle.fail_logs.proofs.RisingLists.{Rising, Below, Rising-append, Rising-weaken, Rising-lt}

pub contains_here : {X : Type 0} (x : X) (xs : List X) → Contains (x ∷ xs) x
contains_here x xs = (0, omega arith, refl)

pub contains_later : {X : Type 0} (y x : X) (xs : List X) → Contains xs x → Contains (y ∷ xs) x
contains_later y x xs h = Contains-append_right (y ∷ []) xs x h

-- ---- each stands there

pub in_outputs : (a n k : ℕ) → a ≤ k → k < a + n → Contains (map (λ k. Output k) (range_with_len a n)) (Output k)
in_outputs a zero k low high = absurd (omega arith)
in_outputs a (suc n) k low high = elim (cases_lt a k) [
  | inl lt ↦ contains_later (Output a) (Output k) (map (λ k. Output k) (range_with_len (a + 1) n)) (in_outputs (a + 1) n k (omega arith) (omega arith))
  | inr le ↦ let same : k ≡ a = omega arith in rw same (contains_here (Output a) (map (λ k. Output k) (range_with_len (a + 1) n)))
]

in_cycle : (t h : ℕ) (cs : List Chain) (j : ℕ) → j < length cs → t < length (get_or cs j no_chain).cells → Contains (cycle t h cs) (Cell (h + j) (length (get_or cs j no_chain).cells - 1 - t))
in_cycle t h [] j lt shows = absurd (omega arith)
in_cycle t h (c ∷ cs) zero lt shows =
    let yes_here : ltb t (length c.cells) ≡ true = grind (arith, nat_tests, shows) in
    let s : h + 0 ≡ h = omega arith in
    rw (yes_here, s) (contains_here (Cell h (length c.cells - 1 - t)) (cycle t (h + 1) cs))
in_cycle t h (c ∷ cs) (suc j) lt shows =
    let s : (h + 1) + j ≡ h + suc j = omega arith in
    let later : Contains (cycle t (h + 1) cs) (Cell (h + suc j) (length (get_or cs j no_chain).cells - 1 - t)) =
    subst (λ (n : ℕ). Contains (cycle t (h + 1) cs) (Cell n (length (get_or cs j no_chain).cells - 1 - t))) s (in_cycle t (h + 1) cs j (omega arith) shows) in
    elim (cases_Bool (ltb t (length c.cells))) [
      | inl shows_c ↦ rw shows_c (contains_later (Cell h (length c.cells - 1 - t)) _ (cycle t (h + 1) cs) later)
      | inr not_there ↦ rw not_there later
    ]

pub in_cycles : (f : ℕ → List Point) (x : Point) (a n t : ℕ) → a ≤ t → t < a + n → Contains (f t) x → Contains (flat_map f (range_with_len a n)) x
in_cycles f x a zero t low high h = absurd (omega arith)
in_cycles f x a (suc n) t low high h = elim (cases_lt a t) [
  | inl lt ↦ Contains-append_right (f a) (flat_map f (range_with_len (a + 1) n)) x (in_cycles f x (a + 1) n t (omega arith) (omega arith) h)
  | inr le ↦ let same : t ≡ a = omega arith in Contains-append_left (f a) (flat_map f (range_with_len (a + 1) n)) x (rw same at h)
]

pub longest-above : (cs : List Chain) (j : ℕ) → j < length cs → length (get_or cs j no_chain).cells ≤ longest cs
longest-above [] j lt = absurd (omega arith)
longest-above (c ∷ cs) zero lt = omega arith
longest-above (c ∷ cs) (suc j) lt = omega (arith, longest-above cs j (omega arith))

pub output_stands : (t : ScanTest) (k : ℕ) → k < length t.netlist.outputs → Contains (points_of t) (Output k)
output_stands t k lt = Contains-append_left _ (flat_map (λ n. cycle n 0 t.chains) (range_with_len 0 (longest t.chains))) (Output k) (in_outputs 0 (length t.netlist.outputs) k (omega arith) (omega arith))

pub cell_stands : (t : ScanTest) (h i : ℕ) → h < length t.chains → i < length (chain_at t h).cells → Contains (points_of t) (Cell h i)
cell_stands t h i lt within =
    let n : ℕ = length (chain_at t h).cells in
    let shows : n - 1 - i < n = omega arith in
    let back : n - 1 - (n - 1 - i) ≡ i = omega arith in
    let zero_plus : 0 + h ≡ h = omega arith in
    let here : Contains (cycle (n - 1 - i) 0 t.chains) (Cell h i) = rw (zero_plus, back) at (in_cycle (n - 1 - i) 0 t.chains h lt shows) in
    Contains-append_right (map (λ k. Output k) (range_with_len 0 (length t.netlist.outputs))) (flat_map (λ n. cycle n 0 t.chains) (range_with_len 0 (longest t.chains))) (Cell h i)
    (in_cycles (λ n. cycle n 0 t.chains) (Cell h i) 0 (longest t.chains) (n - 1 - i) (omega arith) (omega (arith, longest-above t.chains h lt)) here)

-- ---- none stands there twice

-- a number for each point that rises in test order
abbrev order_of : ScanTest → Point → ℕ
order_of t (Output k) = k
order_of t (Cell h i) = length t.netlist.outputs + (length (chain_at t h).cells - 1 - i) * length t.chains + h

pub rising_outputs : (f : Point → ℕ) (a n : ℕ) → ((k : ℕ) → f (Output k) ≡ k) → Rising a (map f (map (λ k. Output k) (range_with_len a n))) × Below (a + n) (map f (map (λ k. Output k) (range_with_len a n)))
rising_outputs f a zero is = (tt, tt)
rising_outputs f a (suc n) is =
    let rest = rising_outputs f (a + 1) n is in
    let s : (a + 1) + n ≡ a + suc n = omega arith in
    let below : Below (a + suc n) (map f (map (λ k. Output k) (range_with_len (a + 1) n))) = rw s at rest.1 in
    let e : f (Output a) ≡ a = is a in
    rw e ((omega arith, rest.0), (omega arith, below))

rising_cycle : (f : Point → ℕ) (base t h : ℕ) (cs : List Chain) → ((j : ℕ) → j < length cs → t < length (get_or cs j no_chain).cells → f (Cell (h + j) (length (get_or cs j no_chain).cells - 1 - t)) ≡ base + (h + j))
    → Rising (base + h) (map f (cycle t h cs)) × Below (base + (h + length cs)) (map f (cycle t h cs))
rising_cycle f base t h [] is = (tt, tt)
rising_cycle f base t h (c ∷ cs) is =
    let later_is : (j : ℕ) → j < length cs → t < length (get_or cs j no_chain).cells → f (Cell ((h + 1) + j) (length (get_or cs j no_chain).cells - 1 - t)) ≡ base + ((h + 1) + j) = λ j lt shows.
    let s : h + suc j ≡ (h + 1) + j = omega arith in
    subst (λ (n : ℕ). f (Cell n (length (get_or cs j no_chain).cells - 1 - t)) ≡ base + n) s (is (suc j) (omega arith) shows) in
    let rest = rising_cycle f base t (h + 1) cs later_is in
    let up : base + (h + 1) ≡ (base + h) + 1 = omega arith in
    let end : base + ((h + 1) + length cs) ≡ base + (h + suc (length cs)) = omega arith in
    let rises : Rising ((base + h) + 1) (map f (cycle t (h + 1) cs)) = rw up at rest.0 in
    let below : Below (base + (h + suc (length cs))) (map f (cycle t (h + 1) cs)) = rw end at rest.1 in
    elim (cases_Bool (ltb t (length c.cells))) [
      | inl shows ↦
          let s : h + 0 ≡ h = omega arith in
          let e : f (Cell h (length c.cells - 1 - t)) ≡ base + h = subst (λ (n : ℕ). f (Cell n (length c.cells - 1 - t)) ≡ base + n) s (is 0 (omega arith) (ltb-true t (length c.cells) shows)) in
          rw (shows, e) ((omega arith, rises), (omega arith, below))
      | inr not_there ↦ rw not_there (Rising-weaken (base + h) ((base + h) + 1) _ (omega arith) rises, below)
    ]

-- block after block, each of n numbers
pub rising_blocks : (f : ℕ → List ℕ) (base n a m : ℕ) → ((t : ℕ) → Rising (base + t * n) (f t) × Below (base + (t + 1) * n) (f t)) → Rising (base + a * n) (flat_map f (range_with_len a m))
rising_blocks f base n a zero each = tt
rising_blocks f base n a (suc m) each =
    Rising-append (base + a * n) (base + (a + 1) * n) (f a) (flat_map f (range_with_len (a + 1) m)) (omega (arith, add-mul a 1 n)) (each a).0 (each a).1 (rising_blocks f base n (a + 1) m each)

pub map-flat_map : {X : Type 0} (f : X → ℕ) (g : ℕ → List X) (ns : List ℕ) → map f (flat_map g ns) ≡ flat_map (λ n. map f (g n)) ns
map-flat_map f g [] = refl
map-flat_map f g (n ∷ ns) = map-append f (g n) (flat_map g ns) ∙ ap (λ zs. map f (g n) ++ zs) (map-flat_map f g ns)

cycle_order : (t : ScanTest) (n : ℕ) → Rising (length t.netlist.outputs + n * length t.chains) (map (order_of t) (cycle n 0 t.chains))
    × Below (length t.netlist.outputs + (n + 1) * length t.chains) (map (order_of t) (cycle n 0 t.chains))
cycle_order t n =
    let base : ℕ = length t.netlist.outputs + n * length t.chains in
    let is : (j : ℕ) → j < length t.chains → n < length (get_or t.chains j no_chain).cells → order_of t (Cell (0 + j) (length (get_or t.chains j no_chain).cells - 1 - n)) ≡ base + (0 + j) = λ j lt shows.
    let s : 0 + j ≡ j = omega arith in
    let back : length (get_or t.chains j no_chain).cells - 1 - (length (get_or t.chains j no_chain).cells - 1 - n) ≡ n = omega arith in
    rw (s, back) refl in
    let both = rising_cycle (order_of t) base n 0 t.chains is in
    let low : base + 0 ≡ base = omega arith in
    let high : base + (0 + length t.chains) ≡ length t.netlist.outputs + (n + 1) * length t.chains = omega (arith, add-mul n 1 (length t.chains)) in
    (rw low at both.0, rw high at both.1)

order_rises : (t : ScanTest) → Rising 0 (map (order_of t) (points_of t))
order_rises t =
    let outputs : ℕ = length t.netlist.outputs in
    let front = rising_outputs (order_of t) 0 outputs (λ k. refl) in
    let s : 0 + outputs ≡ outputs = omega arith in
    let below : Below outputs (map (order_of t) (map (λ k. Output k) (range_with_len 0 outputs))) = rw s at front.1 in
    let start : outputs + 0 * length t.chains ≡ outputs = omega arith in
    let cells : Rising outputs (flat_map (λ n. map (order_of t) (cycle n 0 t.chains)) (range_with_len 0 (longest t.chains))) =
    rw start at (rising_blocks (λ n. map (order_of t) (cycle n 0 t.chains)) outputs (length t.chains) 0 (longest t.chains) (cycle_order t)) in
    rw (map-append (order_of t) (map (λ k. Output k) (range_with_len 0 outputs)) (flat_map (λ n. cycle n 0 t.chains) (range_with_len 0 (longest t.chains))), map-flat_map (order_of t) (λ n. cycle n 0 t.chains) (range_with_len 0 (longest t.chains)))
    (Rising-append 0 outputs (map (order_of t) (map (λ k. Output k) (range_with_len 0 outputs))) _ (omega arith) front.0 below cells)

order_at : (t : ScanTest) (j k : ℕ) (d : Point) → j < k → k < length (points_of t) → order_of t (get_or (points_of t) j d) < order_of t (get_or (points_of t) k d)
order_at t j k d lt within =
    let n : length (map (order_of t) (points_of t)) ≡ length (points_of t) = length-map (points_of t) (order_of t) in
    let at : (i : ℕ) → i < length (points_of t) → get_or (map (order_of t) (points_of t)) i 0 ≡ order_of t (get_or (points_of t) i d) = λ i h. get_or-map (order_of t) (points_of t) i d 0 h in
    omega (arith, Rising-lt 0 (map (order_of t) (points_of t)) j k (order_rises t) lt (omega arith), at j (omega arith), at k within)

pub points_differ : (t : ScanTest) (j k : ℕ) (d : Point) → j < length (points_of t) → k < length (points_of t) → get_or (points_of t) j d ≡ get_or (points_of t) k d → j ≡ k
points_differ t j k d j_within k_within same =
    let e : order_of t (get_or (points_of t) j d) ≡ order_of t (get_or (points_of t) k d) = ap (order_of t) same in
    elim (cases_lt j k) [
      | inl lt ↦ absurd (omega (arith, order_at t j k d lt k_within))
      | inr le ↦ elim (cases_lt k j) [
        | inl lt ↦ absurd (omega (arith, order_at t k j d lt j_within))
        | inr ge ↦ omega arith
      ]
    ]
