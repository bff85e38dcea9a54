-- Cones as a sweep along an order of evaluation finds them, forwards or backwards.
use Rattle.std.proofs.Common.{◌≡◌, ◌≢◌, ◌⊎◌, ℕ, zero, suc, ◌+◌, ◌<◌, ◌≤◌, Bool, true, false, eqb, ◌||◌, ◌&&◌, List, [], ◌∷◌, ◌++◌, length, map, get_or, set, take, Result, Ok, Err, refl, sym, ap, ◌∙◌, inl, inr, arith}
use Rattle.std.specs.Prelude.{Contains, filter, IfOk}
use Rattle.std.specs.List.{list_any, range_with_len}
use Rattle.std.proofs.lemmas.Bool.{cases_Bool, cases_eq, cases_lt, both_ways, eq-eqb, ne_eqb, eqb-true, or_cases, or_left, or_right, and_parts, and_from}
use Rattle.std.proofs.lemmas.List.{get_or_default, get_or-set_same, get_or-set_other, take_more, take_all, append-nil}
use Rattle.std.proofs.lemmas.List.Elements.{Contains-push_cases}
use Rattle.std.proofs.lemmas.List.Folds.{list_any-append}
use Rattle.std.proofs.lemmas.List.FromFn.{length-map-range_with_len, get_or-map-range_with_len, map-range_with_len_more}
use Rattle.scan_model.specs.declared.circuit.Driver.{Driver}
use Rattle.scan_model.specs.declared.circuit.Driver.TheVariants.{Input, Flop, Gate}
use Rattle.scan_model.specs.Netlist.{Netlist, IsNetlist, reads, is_gate, is_gate_driver, driver_of, net_at, pin_at}
use Rattle.scan_model.specs.Walks.{IsEvaluationOrder, along, any_read}
use Rattle.scan_model.specs.Cone.{in_fan_in}
use Rattle.scan_model.specs.Marks.{is_marked}
use Rattle.scan_model.proofs.Orders.{Contains-cons, filter_range_more}
use Rattle.scan_model.proofs.Along.{IsLocal, settled, in_front}

-- ---- what a gate reads

-- an element that passes
pub any_found : (p : ℕ → Bool) (xs : List ℕ) → list_any p xs ≡ true → (x : ℕ) × Contains xs x × (p x ≡ true)
any_found p [] e = absurd cc
any_found p (y ∷ xs) e = elim (or_cases (p y) (list_any p xs) e) [
  | inl here ↦ (y, (0, omega arith, refl), here)
  | inr later ↦ let rest = any_found p xs later in (rest.0, Contains-cons y xs rest.0 rest.1, rest.2)
]

pub any_among : (p : ℕ → Bool) (xs : List ℕ) (x : ℕ) → Contains xs x → p x ≡ true → list_any p xs ≡ true
any_among p [] x in' e = absurd (omega (arith, in'.1))
any_among p (y ∷ xs) x in' e = go in'.0 in'.1 in'.2 (λ i lt is. any_among p xs x (i, lt, is) e)
  where
    go : (i : ℕ) → i < length (y ∷ xs) → get_or (y ∷ xs) i x ≡ x → ((j : ℕ) → j < length xs → get_or xs j x ≡ x → list_any p xs ≡ true) → list_any p (y ∷ xs) ≡ true
    go zero lt is later = or_left (p y) (list_any p xs) (ap p is ∙ e)
    go (suc i) lt is later = or_right (p y) (list_any p xs) (later i (omega arith) is)

any_agree : (f g : ℕ → Bool) (xs : List ℕ) → ((x : ℕ) → Contains xs x → f x ≡ g x) → list_any f xs ≡ list_any g xs
any_agree f g [] agree = refl
any_agree f g (y ∷ xs) agree =
    let first : f y ≡ g y = agree y (0, omega arith, refl) in
    let rest = any_agree f g xs (λ x in'. agree x (Contains-cons y xs x in')) in
    rw (first, rest) refl

read_agree : (c : Netlist) (n : ℕ) (f g : ℕ → Bool) (x : Driver) → ((m : ℕ) → is_gate_driver x ≡ true → Contains (reads c n) m → f m ≡ g m) → any_read c x f n ≡ any_read c x g n
read_agree c n f g Input agree = refl
read_agree c n f g Flop agree = refl
read_agree c n f g (Gate kind) agree = any_agree f g (reads c n) (λ m in'. agree m refl in')

read_found : (c : Netlist) (p : ℕ → Bool) (n : ℕ) (x : Driver) → any_read c x p n ≡ true → (is_gate_driver x ≡ true) × ((r : ℕ) × Contains (reads c n) r × (p r ≡ true))
read_found c p n Input e = absurd cc
read_found c p n Flop e = absurd cc
read_found c p n (Gate kind) e = (refl, any_found p (reads c n) e)

read_among : (c : Netlist) (p : ℕ → Bool) (n r : ℕ) (x : Driver) → is_gate_driver x ≡ true → Contains (reads c n) r → p r ≡ true → any_read c x p n ≡ true
read_among c p n r Input gate read e = absurd cc
read_among c p n r Flop gate read e = absurd cc
read_among c p n r (Gate kind) gate read e = any_among p (reads c n) r read e

read_leaf : (c : Netlist) (p : ℕ → Bool) (n : ℕ) (x : Driver) → is_gate_driver x ≡ false → any_read c x p n ≡ false
read_leaf c p n Input leaf = refl
read_leaf c p n Flop leaf = refl
read_leaf c p n (Gate kind) leaf = absurd cc

-- the first operands of a gate, one by one

abbrev pub first_reads : Netlist → ℕ → ℕ → List ℕ
first_reads c g i = map (λ p. (pin_at c p).net) (range_with_len (net_at c g).first_pin i)

pub first_reads_more : (c : Netlist) (g i : ℕ) → first_reads c g (i + 1) ≡ first_reads c g i ++ (pin_at c ((net_at c g).first_pin + i)).net ∷ []
first_reads_more c g i = map-range_with_len_more (λ p. (pin_at c p).net) (net_at c g).first_pin i ((net_at c g).first_pin + i) refl

pub is_read : (c : Netlist) (g i : ℕ) → i < (net_at c g).pin_count → Contains (reads c g) (pin_at c ((net_at c g).first_pin + i)).net
is_read c g i lt = (
  i,
  omega (arith, length-map-range_with_len (λ p. (pin_at c p).net) (net_at c g).first_pin (net_at c g).pin_count),
  get_or-map-range_with_len (λ p. (pin_at c p).net) (net_at c g).first_pin (net_at c g).pin_count i ((net_at c g).first_pin + i) (pin_at c ((net_at c g).first_pin + i)).net lt refl,
)

-- the nets that a net reads are in range
pub reads_in_range : (c : Netlist) (n m : ℕ) → IsNetlist c → n < length c.nets → Contains (reads c n) m → m < length c.nets
reads_in_range c n m sound lt read =
    let first = (net_at c n).first_pin in
    let count = (net_at c n).pin_count in
    let short : read.0 < count = omega (arith, read.1, length-map-range_with_len (λ p. (pin_at c p).net) first count) in
    let is : m ≡ (pin_at c (first + read.0)).net = sym read.2 ∙ get_or-map-range_with_len (λ p. (pin_at c p).net) first count read.0 (first + read.0) m short refl in
    rw is (sound.pin_nets (first + read.0) (omega (arith, sound.operand_range n lt)))

-- ---- the equation of a cone

abbrev pub fan_node : Netlist → ℕ → ℕ → (ℕ → Bool) → Bool
fan_node c m k below = eqb k m || any_read c (driver_of c k) below k

fan_node_local : (c : Netlist) (m : ℕ) → IsLocal c (fan_node c m)
fan_node_local c m n f g agree = ap (λ b. eqb n m || b) (read_agree c n f g (driver_of c n) agree)

pub in_fan_in-is : (c : Netlist) (order : List ℕ) (m : ℕ) → IsEvaluationOrder c order → (n : ℕ) → n < length c.nets → in_fan_in c m n ≡ fan_node c m n (in_fan_in c m)
in_fan_in-is c order m ordered n lt = settled c order false (fan_node c m) ordered (fan_node_local c m) n lt

-- a net lies in its own cone
pub in_own : (c : Netlist) (n : ℕ) → in_fan_in c n n ≡ true
in_own c n = or_left (eqb n n) (any_read c (driver_of c n) (along false (fan_node c n) (length c.nets)) n) (eq-eqb n n refl)

-- Forwards: after k gates the marks are right for these, where the marks begin at the net m.
pub record IsSwept (c : Netlist) (order : List ℕ) (m k : ℕ) (marked : ℕ → Bool) : Type 0 where
  pub sound : (n : ℕ) → n < length c.nets → marked n ≡ true → in_fan_in c m n ≡ true
  pub own : marked m ≡ true
  pub done : (n : ℕ) → Contains (take k order) n → in_fan_in c m n ≡ true → marked n ≡ true

-- Backwards: with k gates still to come, the marks are right but for what lies behind these, where the marks begin at the net n.
pub record IsSpread (c : Netlist) (order : List ℕ) (n k : ℕ) (marked : ℕ → Bool) : Type 0 where
  pub sound : (m : ℕ) → m < length c.nets → marked m ≡ true → in_fan_in c m n ≡ true
  pub reach : (m : ℕ) → in_fan_in c m n ≡ true → (marked m ≡ true) ⊎ ((i : ℕ) × (i < k) × (marked (get_or order i 0) ≡ true) × (in_fan_in c m (get_or order i 0) ≡ true))

-- two tests that pass together are one
pub same_answer : (a b : Bool) → (a ≡ true → b ≡ true) → (b ≡ true → a ≡ true) → a ≡ b
same_answer true b to from = sym (to refl)
same_answer false true to from = from refl
same_answer false false to from = refl

module _ (c : Netlist) (order : List ℕ) (sound : IsNetlist c) (ordered : IsEvaluationOrder c order) where
  -- what lies in the cone of a net that a gate reads lies in the gate's
  pub in_of_read : (m g r : ℕ) → g < length c.nets → is_gate c g ≡ true → Contains (reads c g) r → in_fan_in c m r ≡ true → in_fan_in c m g ≡ true
  in_of_read m g r lt gate read in' = in_fan_in-is c order m ordered g lt ∙ or_right (eqb g m) (any_read c (driver_of c g) (in_fan_in c m) g) (read_among c (in_fan_in c m) g r (driver_of c g) gate read in')

  -- what lies in the cone of a net is the net itself, or lies in the cone of a net that it reads as a gate
  pub in_cases : (m n : ℕ) → n < length c.nets → in_fan_in c m n ≡ true → (n ≡ m) ⊎ ((is_gate c n ≡ true) × ((r : ℕ) × Contains (reads c n) r × (in_fan_in c m r ≡ true)))
  in_cases m n lt in' = elim (or_cases (eqb n m) (any_read c (driver_of c n) (in_fan_in c m) n) (sym (in_fan_in-is c order m ordered n lt) ∙ in')) [
    | inl same ↦ inl (eqb-true n m same)
    | inr read ↦ inr (read_found c (in_fan_in c m) n (driver_of c n) read)
  ]

  in_of_leaf : (m n : ℕ) → n < length c.nets → is_gate c n ≡ false → in_fan_in c m n ≡ true → n ≡ m
  in_of_leaf m n lt leaf in' = elim (in_cases m n lt in') [ inl same ↦ same | inr read ↦ absurd (both_ways (is_gate c n) leaf read.0) ]

  deeper : (g h : ℕ) → is_gate c g ≡ true → Contains (reads c g) h → (d n : ℕ) → along false (fan_node c g) d n ≡ true → along false (fan_node c h) (suc d) n ≡ true
  deeper g h gate read zero n e = absurd cc
  deeper g h gate read (suc d) n e = elim (or_cases (eqb n g) (any_read c (driver_of c n) (along false (fan_node c g) d) n) e) [
    | inl same ↦
        let is : n ≡ g = eqb-true n g same in
        let own : along false (fan_node c h) (suc d) h ≡ true = or_left (eqb h h) (any_read c (driver_of c h) (along false (fan_node c h) d) h) (eq-eqb h h refl) in
        let at : along false (fan_node c h) (suc (suc d)) g ≡ true = or_right (eqb g h) (any_read c (driver_of c g) (along false (fan_node c h) (suc d)) g) (read_among c (along false (fan_node c h) (suc d)) g h (driver_of c g) gate read own) in
        ap (along false (fan_node c h) (suc (suc d))) is ∙ at
    | inr some ↦
        let r = read_found c (along false (fan_node c g) d) n (driver_of c n) some in
        or_right (eqb n h) (any_read c (driver_of c n) (along false (fan_node c h) (suc d)) n) (read_among c (along false (fan_node c h) (suc d)) n r.1.0 (driver_of c n) r.0 r.1.1 (deeper g h gate read d r.1.0 r.1.2))
  ]

  -- what a gate of a cone reads lies in the cone
  pub read_of_in : (g h n : ℕ) → n < length c.nets → is_gate c g ≡ true → Contains (reads c g) h → in_fan_in c g n ≡ true → in_fan_in c h n ≡ true
  read_of_in g h n lt gate read in' = in_fan_in-is c order h ordered n lt ∙ deeper g h gate read (suc (length c.nets)) n in'

  pub swept_none : (m : ℕ) (marked : ℕ → Bool) → m < length c.nets → ((n : ℕ) → n < length c.nets → marked n ≡ eqb n m) → IsSwept c order m 0 marked
  swept_none m marked m_lt is = record {
    sound = λ n lt e. let same : n ≡ m = eqb-true n m (sym (is n lt) ∙ e) in ap (in_fan_in c m) same ∙ in_own c m;
    own = is m m_lt ∙ eq-eqb m m refl;
    done = λ n in'. absurd (omega (arith, in'.1));
  }

  listed_in_range : (k n : ℕ) → k ≤ length order → Contains (take k order) n → n < length c.nets
  listed_in_range k n le in' =
      let at = in_front order k n le in' in
      rw (← at.2) (ordered.gates at.0 (omega (arith, at.1))).0

  pub swept_more : (m k : ℕ) (old new : ℕ → Bool) → m < length c.nets → k < length order → IsSwept c order m k old
      → new (get_or order k 0) ≡ (old (get_or order k 0) || list_any old (reads c (get_or order k 0))) → ((n : ℕ) → n < length c.nets → n ≢ get_or order k 0 → new n ≡ old n) → IsSwept c order m (k + 1) new
  swept_more m k old new m_lt lt swept here others =
      let g = get_or order k 0 in
      let gate = ordered.gates k lt in
      let keeps : (n : ℕ) → n < length c.nets → old n ≡ true → new n ≡ true = λ n in_range e. elim (cases_eq n g) [
        | inl same ↦ ap new same ∙ here ∙ or_left (old g) (list_any old (reads c g)) (ap old (sym same) ∙ e)
        | inr other ↦ others n in_range other ∙ e
      ] in
      record {
        sound = λ n in_range e. elim (cases_eq n g) [
          | inl same ↦ elim (or_cases (old g) (list_any old (reads c g)) (sym here ∙ ap new (sym same) ∙ e)) [
            | inl before ↦ swept.sound n in_range (ap old same ∙ before)
            | inr read ↦
                let r = any_found old (reads c g) read in
                ap (in_fan_in c m) same ∙ in_of_read m g r.0 gate.0 gate.1 r.1 (swept.sound r.0 (reads_in_range c g r.0 sound gate.0 r.1) r.2)
          ]
          | inr other ↦ swept.sound n in_range (sym (others n in_range other) ∙ e)
        ];
        own = keeps m m_lt swept.own;
        done = λ n in' e. elim (cases_eq n g) [
          | inl same ↦ elim (in_cases m g gate.0 (ap (in_fan_in c m) (sym same) ∙ e)) [
            | inl is ↦ ap new (same ∙ is) ∙ keeps m m_lt swept.own
            | inr read ↦
                let r = read.1 in
                let marked : old r.0 ≡ true = elim (cases_Bool (is_gate c r.0)) [
                  | inl inner ↦ swept.done r.0 (ordered.after_read k r.0 lt r.1 inner) r.2
                  | inr leaf ↦ ap old (in_of_leaf m r.0 (reads_in_range c g r.0 sound gate.0 r.1) leaf r.2) ∙ swept.own
                ] in
                ap new same ∙ here ∙ or_right (old g) (list_any old (reads c g)) (any_among old (reads c g) r.0 r.1 marked)
          ]
          | inr other ↦
              let before : Contains (take k order) n = elim (Contains-push_cases (take k order) g n (rw (take_more order k 0 lt) at in')) [ inl earlier ↦ earlier | inr same ↦ absurd (other (sym same)) ] in
              keeps n (listed_in_range k n (omega arith) before) (swept.done n before e)
        ];
      }

  pub swept_all : (m k : ℕ) (marked : ℕ → Bool) → length order ≤ k → IsSwept c order m k marked → (n : ℕ) → n < length c.nets → marked n ≡ in_fan_in c m n
  swept_all m k marked le swept n lt = same_answer (marked n) (in_fan_in c m n) (swept.sound n lt) (λ e. elim (cases_Bool (is_gate c n)) [
    | inl gate ↦ swept.done n (rw (take_all k order le) (ordered.all n lt gate)) e
    | inr leaf ↦ ap marked (in_of_leaf m n lt leaf e) ∙ swept.own
  ])

  pub spread_none : (n : ℕ) (marked : ℕ → Bool) → n < length c.nets → ((m : ℕ) → marked m ≡ eqb m n) → IsSpread c order n (length order) marked
  spread_none n marked lt is =
      let own : marked n ≡ true = is n ∙ eq-eqb n n refl in
      record {
        sound = λ m in_range e. let same : m ≡ n = eqb-true m n (sym (is m) ∙ e) in ap (λ x. in_fan_in c x n) same ∙ in_own c n;
        reach = λ m e. elim (cases_Bool (is_gate c n)) [
          | inl gate ↦
              let at = ordered.all n lt gate in
              let same : get_or order at.0 0 ≡ n = get_or_default order at.0 0 n at.1 ∙ at.2 in
              inr (at.0, at.1, ap marked same ∙ own, ap (in_fan_in c m) same ∙ e)
          | inr leaf ↦ inl (ap marked (sym (in_of_leaf m n lt leaf e)) ∙ own)
        ];
      }

  pub spread_more : (n k : ℕ) (old new : ℕ → Bool) → n < length c.nets → k < length order → IsSpread c order n (k + 1) old
      → ((m : ℕ) → new m ≡ (old m || (old (get_or order k 0) && list_any (λ h. eqb m h) (reads c (get_or order k 0))))) → IsSpread c order n k new
  spread_more n k old new n_lt lt spread is =
      let g = get_or order k 0 in
      let gate = ordered.gates k lt in
      let keeps : (m : ℕ) → old m ≡ true → new m ≡ true = λ m e. is m ∙ or_left (old m) (old g && list_any (λ h. eqb m h) (reads c g)) e in
      let marks : (r : ℕ) → old g ≡ true → Contains (reads c g) r → new r ≡ true = λ r marked read.
      is r ∙ or_right (old r) (old g && list_any (λ h. eqb r h) (reads c g)) (and_from (old g) (list_any (λ h. eqb r h) (reads c g)) marked (any_among (λ h. eqb r h) (reads c g) r read (eq-eqb r r refl))) in
      record {
        sound = λ m in_range e. elim (or_cases (old m) (old g && list_any (λ h. eqb m h) (reads c g)) (sym (is m) ∙ e)) [
          | inl before ↦ spread.sound m in_range before
          | inr now ↦
              let both = and_parts (old g) (list_any (λ h. eqb m h) (reads c g)) now in
              let r = any_found (λ h. eqb m h) (reads c g) both.1 in
              let same : m ≡ r.0 = eqb-true m r.0 r.2 in
              ap (λ x. in_fan_in c x n) same ∙ read_of_in g r.0 n n_lt gate.1 r.1 (spread.sound g gate.0 both.0)
        ];
        reach = λ m e. elim (spread.reach m e) [
          | inl marked ↦ inl (keeps m marked)
          | inr way ↦ elim (cases_lt way.0 k) [
            | inl before ↦ inr (way.0, before, keeps (get_or order way.0 0) way.2, way.3)
            | inr past ↦
                let at : way.0 ≡ k = omega (arith, way.1) in
                let marked : old g ≡ true = ap (λ i. old (get_or order i 0)) (sym at) ∙ way.2 in
                let inside : in_fan_in c m g ≡ true = ap (λ i. in_fan_in c m (get_or order i 0)) (sym at) ∙ way.3 in
                elim (in_cases m g gate.0 inside) [
                  | inl same ↦ inl (keeps m (ap old (sym same) ∙ marked))
                  | inr read ↦
                      let r = read.1 in
                      elim (cases_Bool (is_gate c r.0)) [
                        | inl inner ↦
                            let front = in_front order k r.0 (omega arith) (ordered.after_read k r.0 lt r.1 inner) in
                            inr (front.0, front.1, ap new front.2 ∙ marks r.0 marked r.1, ap (in_fan_in c m) front.2 ∙ r.2)
                        | inr leaf ↦ inl (ap new (sym (in_of_leaf m r.0 (reads_in_range c g r.0 sound gate.0 r.1) leaf r.2)) ∙ marks r.0 marked r.1)
                      ]
                ]
          ]
        ];
      }

  pub spread_all : (n : ℕ) (marked : ℕ → Bool) → IsSpread c order n 0 marked → (m : ℕ) → m < length c.nets → marked m ≡ in_fan_in c m n
  spread_all n marked spread m lt = same_answer (marked m) (in_fan_in c m n) (spread.sound m lt) (λ e. elim (spread.reach m e) [
    | inl marked ↦ marked
    | inr way ↦ absurd (omega (arith, way.1))
  ])

-- ---- the nets with a mark

pub filter_range_agree : (p q : ℕ → Bool) (a n : ℕ) → ((x : ℕ) → a ≤ x → x < a + n → p x ≡ q x) → filter p (range_with_len a n) ≡ filter q (range_with_len a n)
filter_range_agree p q a zero agree = refl
filter_range_agree p q a (suc n) agree =
    let first : p a ≡ q a = agree a (omega arith) (omega arith) in
    let rest = filter_range_agree p q (a + 1) n (λ x low high. agree x (omega arith) (omega arith)) in
    rw (first, rest) refl

pub cone_of_marks : {E : Type 0} (N : ℕ) (marks : List Bool) (p : ℕ → Bool) (r : Result (List ℕ) E) → length marks ≡ N → ((n : ℕ) → n < N → is_marked marks n ≡ p n)
    → IfOk r (λ nets. nets ≡ filter (is_marked marks) (range_with_len 0 (length marks))) → IfOk r (λ nets. nets ≡ filter p (range_with_len 0 N))
cone_of_marks N marks p (Err e) len right is = tt
cone_of_marks N marks p (Ok nets) len right is =
    is
    ∙ ap (λ count. filter (is_marked marks) (range_with_len 0 count)) len
    ∙ filter_range_agree (is_marked marks) p 0 N (λ n low high. right n (omega arith))

-- the first mark
pub first_mark_set : (marks : List Bool) (m : ℕ) → m < length marks → ((n : ℕ) → is_marked marks n ≡ false) → (n : ℕ) → is_marked (set marks m true) n ≡ eqb n m
first_mark_set marks m lt blank n = elim (cases_eq n m) [
  | inl same ↦ ap (is_marked (set marks m true)) same ∙ get_or-set_same marks m true false lt ∙ sym (eq-eqb n m same)
  | inr other ↦ get_or-set_other marks m n true false other ∙ blank n ∙ sym (ne_eqb n m other)
]

pub marked_more_yes : (marks : List Bool) (n : ℕ) (old new : List ℕ) → is_marked marks n ≡ true → old ≡ filter (is_marked marks) (range_with_len 0 n) → new ≡ old ++ n ∷ [] → new ≡ filter (is_marked marks) (range_with_len 0 (n + 1))
marked_more_yes marks n old new marked so_far pushed = rw (pushed, so_far, filter_range_more (is_marked marks) n, marked) refl

pub marked_more_no : (marks : List Bool) (n : ℕ) (old : List ℕ) → is_marked marks n ≡ false → old ≡ filter (is_marked marks) (range_with_len 0 n) → old ≡ filter (is_marked marks) (range_with_len 0 (n + 1))
marked_more_no marks n old blank so_far = so_far ∙ sym (filter_range_more (is_marked marks) n ∙ rw (blank, append-nil) refl)

-- ---- the operands of a gate, one by one

module _ (c : Netlist) (g i r : ℕ) (is : r ≡ (pin_at c ((net_at c g).first_pin + i)).net) where
  operands_more : first_reads c g (i + 1) ≡ first_reads c g i ++ r ∷ []
  operands_more = first_reads_more c g i ∙ ap (λ x. first_reads c g i ++ x ∷ []) (sym is)

  -- an operand has a mark
  pub reached_here : (p : ℕ → Bool) → i < (net_at c g).pin_count → p r ≡ true → true ≡ (p g || list_any p (reads c g))
  reached_here p lt passes = sym (or_right (p g) (list_any p (reads c g)) (any_among p (reads c g) r (rw is (is_read c g i lt)) passes))

  -- no operand so far has one
  pub passed_more : (p : ℕ → Bool) → list_any p (first_reads c g i) ≡ false → p r ≡ false → list_any p (first_reads c g (i + 1)) ≡ false
  passed_more p none fails = rw (operands_more, list_any-append p (first_reads c g i) (r ∷ []), none, fails) refl

  -- one more operand gets a mark
  pub marked_more : (p : ℕ → Bool) (marks : List Bool) → r < length marks → ((n : ℕ) → is_marked marks n ≡ (p n || list_any (eqb n) (first_reads c g i)))
      → (n : ℕ) → is_marked (set marks r true) n ≡ (p n || list_any (eqb n) (first_reads c g (i + 1)))
  marked_more p marks inside so_far n = elim (cases_eq n r) [
    | inl same ↦
        let marked : is_marked (set marks r true) n ≡ true = ap (is_marked (set marks r true)) same ∙ get_or-set_same marks r true false inside in
        let found : list_any (eqb n) (first_reads c g i ++ r ∷ []) ≡ true = list_any-append (eqb n) (first_reads c g i) (r ∷ []) ∙ or_right (list_any (eqb n) (first_reads c g i)) (eqb n r || false) (or_left (eqb n r) false (eq-eqb n r same)) in
        rw (operands_more, marked) (sym (or_right (p n) (list_any (eqb n) (first_reads c g i ++ r ∷ [])) found))
    | inr other ↦ rw (operands_more, list_any-append (eqb n) (first_reads c g i) (r ∷ []), ne_eqb n r other, or_false (list_any (eqb n) (first_reads c g i))) (get_or-set_other marks r n true false other ∙ so_far n)
  ]
    where
      or_false : (b : Bool) → (b || (false || false)) ≡ b
      or_false true = refl
      or_false false = refl

-- a gate gets its mark
pub mark_swept : (c : Netlist) (order : List ℕ) → IsNetlist c → IsEvaluationOrder c order → (m k : ℕ) (marks : List Bool) (marked : Bool) → m < length c.nets → length marks ≡ length c.nets → k < length order → IsSwept c order m k (is_marked marks)
    → marked ≡ (is_marked marks (get_or order k 0) || list_any (is_marked marks) (reads c (get_or order k 0))) → IsSwept c order m (k + 1) (is_marked (set marks (get_or order k 0) marked))
mark_swept c order sound ordered m k marks marked m_lt len lt swept is =
    let g = get_or order k 0 in
    swept_more c order sound ordered m k (is_marked marks) (is_marked (set marks g marked)) m_lt lt swept
    (get_or-set_same marks g marked false (omega (arith, len, (ordered.gates k lt).0)) ∙ is) (λ n in_range other. get_or-set_other marks g n marked false other)
