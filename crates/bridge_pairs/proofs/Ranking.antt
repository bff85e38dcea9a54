-- What a net reads through gates has a lower rank, so that of two nets only one can read the other.
use Rattle.std.proofs.Common.{◌≡◌, ◌≢◌, ◌⊎◌, ℕ, zero, suc, ◌+◌, ◌-◌, ◌<◌, ◌≤◌, Bool, true, false, cond, eqb, ◌||◌, List, length, get_or, set, take, refl, sym, ap, subst, ◌∙◌, inl, inr, arith}
use Rattle.std.specs.Prelude.{Contains, nat_le, max}
use Rattle.std.specs.Ordering.{nat_cmp, ord_max}
use Rattle.std.proofs.lemmas.Bool.{cases_Bool, cases_eq, cases_lt, both_ways, eqb-true, eq-eqb, or_right, or_cases, leb-true, leb-false}
use Rattle.std.proofs.lemmas.Bool.Decides.{nat_tests}
use Rattle.std.proofs.lemmas.List.{get_or_default, get_or-set_same, get_or-set_other, get_or-take, length-take}
use Rattle.scan_model.specs.declared.parts.Pair.{Pair}
use Rattle.scan_model.specs.Netlist.{Netlist, reads, is_gate}
use Rattle.scan_model.specs.Cone.{in_fan_in}
use Rattle.scan_model.proofs.Along.{in_front}
use Rattle.scan_model.proofs.FanSweeps.{IsSwept, in_cases, in_own, reads_in_range, same_answer}
use Rattle.bridge_pairs.specs.PairText.{is_feedback}
use Rattle.bridge_pairs.specs.Ranks.{RanksFrom, IsRanked, start_of, target_of}

-- before the last gate
pub ranks_none : (order ranks : List ℕ) → ((n : ℕ) → get_or ranks n 0 ≡ 0) → RanksFrom order ranks (length order)
ranks_none order ranks blank = record {
  placed = λ n pos. absurd (omega (arith, blank n));
  first = λ i le lt. absurd (omega arith);
}

-- one more gate, from behind
pub ranks_more : (order old : List ℕ) (k : ℕ) → k < length order → get_or order k 0 < length old → RanksFrom order old (k + 1) → RanksFrom order (set old (get_or order k 0) (k + 1)) k
ranks_more order old k lt inside so_far =
    let g = get_or order k 0 in
    let new = set old g (k + 1) in
    let here : get_or new g 0 ≡ k + 1 = get_or-set_same old g (k + 1) 0 inside in
    record {
      placed = λ n pos. elim (cases_eq n g) [
        | inl same ↦
            let rank : get_or new n 0 ≡ k + 1 = ap (λ m. get_or new m 0) same ∙ here in
            let place : get_or new n 0 - 1 ≡ k = omega arith in
            (omega arith, ap (λ i. get_or order i 0) place ∙ sym same)
        | inr other ↦
            let kept : get_or new n 0 ≡ get_or old n 0 = get_or-set_other old g n (k + 1) 0 other in
            rw kept (so_far.placed n (rw kept at pos))
      ];
      first = λ i le i_lt. elim (cases_eq (get_or order i 0) g) [
        | inl same ↦
            let rank : get_or new (get_or order i 0) 0 ≡ k + 1 = ap (λ m. get_or new m 0) same ∙ here in
            (omega arith, omega arith)
        | inr other ↦
            let kept : get_or new (get_or order i 0) 0 ≡ get_or old (get_or order i 0) 0 = get_or-set_other old g (get_or order i 0) (k + 1) 0 other in
            let apart : i ≢ k = λ e. other (ap (λ j. get_or order j 0) e) in
            rw kept (so_far.first i (omega arith) i_lt)
      ];
    }

-- what `max` answers
pub higher_is : (a b m : ℕ) → m ≡ ord_max nat_cmp a b → m ≡ max a b
higher_is a b m is = grind (arith, nat_tests)

-- either net of a pair is in range
pub start_within : (ranks : List ℕ) (n : ℕ) (p : Pair) → (p.a < n) × (p.b < n) → start_of ranks p < n
start_within ranks n p within = go (nat_le (get_or ranks p.a 0) (get_or ranks p.b 0))
  where
    go : (b : Bool) → cond b p.a p.b < n
    go true = within.0
    go false = within.1

pub target_within : (ranks : List ℕ) (n : ℕ) (p : Pair) → (p.a < n) × (p.b < n) → target_of ranks p < n
target_within ranks n p within = go (nat_le (get_or ranks p.a 0) (get_or ranks p.b 0))
  where
    go : (b : Bool) → cond b p.b p.a < n
    go true = within.1
    go false = within.0

module _ (c : Netlist) (order ranks : List ℕ) (ranked : IsRanked c order ranks) where
  -- ranks are places in the order
  pub rank_fits : (n : ℕ) → get_or ranks n 0 ≤ length order
  rank_fits n = elim (cases_lt 0 (get_or ranks n 0)) [ inl pos ↦ (ranked.places.placed n pos).0 | inr none ↦ omega arith ]

  leaf_rank : (n : ℕ) → is_gate c n ≡ false → get_or ranks n 0 ≡ 0
  leaf_rank n leaf = elim (cases_lt 0 (get_or ranks n 0)) [
    | inl pos ↦
        let at = ranked.places.placed n pos in
        let gate : is_gate c n ≡ true = ap (is_gate c) (sym at.1) ∙ (ranked.evaluation.gates (get_or ranks n 0 - 1) (omega arith)).1 in
        absurd (both_ways (is_gate c n) leaf gate)
    | inr none ↦ omega arith
  ]

  gate_rank : (n : ℕ) → n < length c.nets → is_gate c n ≡ true → 0 < get_or ranks n 0
  gate_rank n lt gate =
      let at = ranked.evaluation.all n lt gate in
      let same : get_or order at.0 0 ≡ n = get_or_default order at.0 0 n at.1 ∙ at.2 in
      let first : 0 < get_or ranks (get_or order at.0 0) 0 = (ranked.places.first at.0 (omega arith) at.1).0 in
      rw same at first

  -- a net among the first gates of the order
  listed_rank : (k n : ℕ) → k ≤ length order → Contains (take k order) n → get_or ranks n 0 ≤ k
  listed_rank k n le in' =
      let at = in_front order k n le in' in
      let first : get_or ranks (get_or order at.0 0) 0 ≤ at.0 + 1 = (ranked.places.first at.0 (omega arith) (omega (arith, at.1))).1 in
      let rank : get_or ranks n 0 ≤ at.0 + 1 = rw at.2 at first in
      omega (arith, at.1)

  -- what a gate reads has a lower rank
  read_rank : (g r : ℕ) → g < length c.nets → is_gate c g ≡ true → Contains (reads c g) r → get_or ranks r 0 < get_or ranks g 0
  read_rank g r lt gate read =
      let pos = gate_rank g lt gate in
      let at = ranked.places.placed g pos in
      let k = get_or ranks g 0 - 1 in
      elim (cases_Bool (is_gate c r)) [
        | inl inner ↦
            let read' : Contains (reads c (get_or order k 0)) r = subst (λ (n : ℕ). Contains (reads c n) r) (sym at.1) read in
            let low = listed_rank k r (omega arith) (ranked.evaluation.after_read k r (omega arith) read' inner) in
            omega arith
        | inr leaf ↦ omega (arith, leaf_rank r leaf)
      ]

  later_below : (bound m n : ℕ) → get_or ranks n 0 < bound → n < length c.nets → in_fan_in c m n ≡ true → (n ≡ m) ⊎ (get_or ranks m 0 < get_or ranks n 0)
  later_below zero m n below lt in' = absurd (omega arith)
  later_below (suc bound) m n below lt in' = elim (in_cases c order ranked.netlist ranked.evaluation m n lt in') [
    | inl same ↦ inl same
    | inr read ↦
        let r = read.1 in
        let lower : get_or ranks r.0 0 < get_or ranks n 0 = read_rank n r.0 lt read.0 r.1 in
        elim (later_below bound m r.0 (omega arith) (reads_in_range c n r.0 ranked.netlist lt r.1) r.2) [
          | inl same ↦ let rank : get_or ranks r.0 0 ≡ get_or ranks m 0 = ap (λ x. get_or ranks x 0) same in inr (omega arith)
          | inr less ↦ inr (omega arith)
        ]
  ]

  -- what lies in the cone of a net is the net itself, or has a lower rank
  later : (m n : ℕ) → n < length c.nets → in_fan_in c m n ≡ true → (n ≡ m) ⊎ (get_or ranks m 0 < get_or ranks n 0)
  later m n lt in' = later_below (get_or ranks n 0 + 1) m n (omega arith) lt in'

  one_way : (a b : ℕ) → a < length c.nets → get_or ranks a 0 ≤ get_or ranks b 0 → in_fan_in c b a ≡ true → in_fan_in c a b ≡ true
  one_way a b a_lt le in' = elim (later b a a_lt in') [
    | inl same ↦ ap (in_fan_in c a) (sym same) ∙ in_own c a
    | inr less ↦ absurd (omega arith)
  ]

  -- of a pair's nets only the one of higher rank is asked
  pub feedback_in_order : (p : Pair) → p.a < length c.nets → p.b < length c.nets → in_fan_in c (start_of ranks p) (target_of ranks p) ≡ is_feedback c p
  feedback_in_order p a_lt b_lt = go (nat_le (get_or ranks p.a 0) (get_or ranks p.b 0)) refl
    where
      go : (b : Bool) → nat_le (get_or ranks p.a 0) (get_or ranks p.b 0) ≡ b → in_fan_in c (cond b p.a p.b) (cond b p.b p.a) ≡ (in_fan_in c p.a p.b || in_fan_in c p.b p.a)
      go true le =
          same_answer (in_fan_in c p.a p.b) (in_fan_in c p.a p.b || in_fan_in c p.b p.a)
          (λ e. rw e refl)
          (λ e. elim (or_cases (in_fan_in c p.a p.b) (in_fan_in c p.b p.a) e) [ inl first ↦ first | inr second ↦ one_way p.a p.b a_lt (leb-true (get_or ranks p.a 0) (get_or ranks p.b 0) le) second ])
      go false gt =
          same_answer (in_fan_in c p.b p.a) (in_fan_in c p.a p.b || in_fan_in c p.b p.a)
          (or_right (in_fan_in c p.a p.b) (in_fan_in c p.b p.a))
          (λ e. elim (or_cases (in_fan_in c p.a p.b) (in_fan_in c p.b p.a) e) [ inl first ↦ one_way p.b p.a b_lt (omega (arith, leb-false (get_or ranks p.a 0) (get_or ranks p.b 0) gt)) first | inr second ↦ second ])

  -- before the first gate behind a start only its own mark is needed
  pub swept_start : (m low : ℕ) (marked : ℕ → Bool) → m < length c.nets → low ≤ get_or ranks m 0 → low ≤ length order → ((n : ℕ) → n < length c.nets → marked n ≡ eqb n m) → IsSwept c order m low marked
  swept_start m low marked m_lt behind within is =
      let own : marked m ≡ true = is m m_lt ∙ eq-eqb m m refl in
      record {
        sound = λ n lt e. let same : n ≡ m = eqb-true n m (sym (is n lt) ∙ e) in ap (in_fan_in c m) same ∙ in_own c m;
        own = own;
        done = λ n in' e.
            let at = in_front order low n within in' in
            let n_lt : n < length c.nets = rw (← at.2) (ranked.evaluation.gates at.0 (omega (arith, at.1))).0 in
            elim (later m n n_lt e) [
              | inl same ↦ ap marked same ∙ own
              | inr less ↦ absurd (omega (arith, listed_rank low n within in'))
            ];
      }

  -- after the gate of a target its mark is right
  pub swept_target : (m n high : ℕ) (marked : ℕ → Bool) → n < length c.nets → get_or ranks n 0 ≤ high → high ≤ length order → IsSwept c order m high marked → marked n ≡ in_fan_in c m n
  swept_target m n high marked lt reached within swept = same_answer (marked n) (in_fan_in c m n) (swept.sound n lt) (λ e. elim (cases_Bool (is_gate c n)) [
    | inl gate ↦
        let pos = gate_rank n lt gate in
        let at = ranked.places.placed n pos in
        let k = get_or ranks n 0 - 1 in
        let same : get_or (take high order) k n ≡ n = get_or-take high order k n (omega arith) ∙ get_or_default order k n 0 (omega arith) ∙ at.1 in
        swept.done n (k, omega (arith, length-take high order), same) e
    | inr leaf ↦ elim (in_cases c order ranked.netlist ranked.evaluation m n lt e) [
      | inl same ↦ ap marked same ∙ swept.own
      | inr read ↦ absurd (both_ways (is_gate c n) leaf read.0)
    ]
  ])
