-- The search for an order of the gates, step by step.
use Rattle.std.proofs.Common.{◌≡◌, ◌≢◌, ℕ, zero, suc, ◌+◌, ◌-◌, ◌<◌, ◌≤◌, true, List, [], ◌∷◌, ◌++◌, length, get_or, set, take, reverse, refl, sym, ap, subst, ◌∙◌, inl, inr, arith}
use Rattle.std.specs.Prelude.{Contains}
use Rattle.std.proofs.lemmas.Bool.{cases_eq, cases_lt, false≢true}
use Rattle.std.proofs.lemmas.List.{get_or-set_same, get_or-set_other, get_or_past, get_or_append_left, get_or_push, length-set, length_push, reverse-append, take_more, take_all, take_at, take-append-le}
use Rattle.std.proofs.lemmas.List.Elements.{Contains-append_left, Contains-push}
use Rattle.std.proofs.lemmas.List.Sums.{sum_by-set, count_by-le-length}
use Rattle.std.proofs.lemmas.List.FromFn.{get_or-map-range_with_len, length-map-range_with_len, length-range_with_len}
use Rattle.scan_model.specs.declared.circuit.Net.{Net}
use Rattle.scan_model.specs.declared.evaluation.Mark.{Mark}
use Rattle.scan_model.specs.declared.evaluation.Mark.TheVariants.{Fresh, Open, Settled}
use Rattle.scan_model.specs.Netlist.{Netlist, net_at, pin_at, reads, is_gate, is_gate_driver, net_numbers, no_net}
use Rattle.scan_model.specs.Walks.{IsLeastWithoutLevel}
use Rattle.scan_model.specs.GateSearch.{operand, State, state, mark_at, unsettled, IsPartOrder, IsTop, IsReached, IsLine, IsSearch}
use Rattle.scan_model.proofs.Orders.{Contains-cons}
use Rattle.scan_model.proofs.Levels.{listed_has_level, stuck_has_no_level}

-- marks

fresh_or_settled : (m : Mark) → m ≡ Fresh → m ≡ Settled → ⊥
fresh_or_settled m a b = cc

open_or_settled : (m : Mark) → m ≡ Open → m ≡ Settled → ⊥
open_or_settled m a b = cc

open_or_fresh : (m : Mark) → m ≡ Open → m ≡ Fresh → ⊥
open_or_fresh m a b = cc

mark_kept : (marks : List Mark) (n : ℕ) (m k : Mark) (x : ℕ) → mark_at marks x ≡ k → (mark_at marks n ≡ k → ⊥) → mark_at (set marks n m) x ≡ k
mark_kept marks n m k x is differs =
    let apart : x ≢ n = λ e. differs (ap (λ (i : ℕ). mark_at marks i) (sym e) ∙ is) in
    get_or-set_other marks n x m Settled apart ∙ is

pub mark_before : (marks : List Mark) (n : ℕ) (m k : Mark) (x : ℕ) → n < length marks → mark_at (set marks n m) x ≡ k → (m ≡ k → ⊥) → mark_at marks x ≡ k
mark_before marks n m k x lt is differs = elim (cases_eq x n) [
  | inl same ↦ absurd (differs (sym (get_or-set_same marks n m Settled lt) ∙ ap (λ (i : ℕ). mark_at (set marks n m) i) (sym same) ∙ is))
  | inr other ↦ sym (get_or-set_other marks n x m Settled other) ∙ is
]

settled_kept : (marks : List Mark) (n x : ℕ) → n < length marks → mark_at marks x ≡ Settled → mark_at (set marks n Settled) x ≡ Settled
settled_kept marks n x lt is = elim (cases_eq x n) [
  | inl same ↦ ap (λ (i : ℕ). mark_at (set marks n Settled) i) same ∙ get_or-set_same marks n Settled Settled lt
  | inr other ↦ get_or-set_other marks n x Settled Settled other ∙ is
]

open_in_range : (marks : List Mark) (x : ℕ) → mark_at marks x ≡ Open → x < length marks
open_in_range marks x is = elim (cases_lt x (length marks)) [
  | inl lt ↦ lt
  | inr past ↦ absurd (open_or_settled (mark_at marks x) is (get_or_past marks x Settled past))
]

gate_in_range : (c : Netlist) (g : ℕ) → is_gate c g ≡ true → g < length c.nets
gate_in_range c g is = elim (cases_lt g (length c.nets)) [
  | inl lt ↦ lt
  | inr past ↦ absurd (false≢true (sym (ap (λ (n : Net). is_gate_driver n.driver) (get_or_past c.nets g no_net past)) ∙ is))
]

-- what a net reads

reads_at : (c : Netlist) (g i : ℕ) → i < (net_at c g).pin_count → Contains (reads c g) (operand c g i)
reads_at c g i lt =
    let f = λ (p : ℕ). (pin_at c p).net in
    let n = (net_at c g).pin_count in
    (i, omega (arith, length-map-range_with_len f (net_at c g).first_pin n), get_or-map-range_with_len f (net_at c g).first_pin n i ((net_at c g).first_pin + i) (operand c g i) lt refl)

reads_from : (c : Netlist) (g h : ℕ) → Contains (reads c g) h → (i : ℕ) × (i < (net_at c g).pin_count) × (operand c g i ≡ h)
reads_from c g h at =
    let f = λ (p : ℕ). (pin_at c p).net in
    let n = (net_at c g).pin_count in
    let lt : at.0 < n = omega (arith, at.1, length-map-range_with_len f (net_at c g).first_pin n) in
    (at.0, lt, sym (get_or-map-range_with_len f (net_at c g).first_pin n at.0 ((net_at c g).first_pin + at.0) h lt refl) ∙ at.2)

-- the line of open gates

line_open : (c : Netlist) (root : ℕ) (left : List ℕ) (marks : List Mark) (gs : List ℕ) → IsLine c root left marks gs → (k x : ℕ) → k < length gs → get_or gs k x ≡ x → mark_at marks x ≡ Open
line_open c root left marks [] line k x lt is = absurd (omega arith)
line_open c root left marks (g ∷ gs) line zero x lt is = ap (λ (n : ℕ). mark_at marks n) (sym is) ∙ line.1
line_open c root left marks (g ∷ gs) line (suc k) x lt is = line_open c root left marks gs line.4 k x (omega arith) is

reached_same : (c : Netlist) (root : ℕ) (left new : List ℕ) (gs : List ℕ) (g : ℕ) → IsReached c root left gs g → ((x : ℕ) → Contains gs x → get_or new x 0 ≡ get_or left x 0) → IsReached c root new gs g
reached_same c root left new [] g reached same = reached
reached_same c root left new (f ∷ fs) g reached same =
    let e : get_or new f 0 ≡ get_or left f 0 = same f (0, omega arith, refl) in
    let P : ℕ → Type 0 = λ n. (0 < n) × (operand c f (n - 1) ≡ g) in
    subst P (sym e) reached

line_same : (c : Netlist) (root : ℕ) (left new : List ℕ) (marks marked : List Mark) (gs : List ℕ) → IsLine c root left marks gs → ((x : ℕ) → Contains gs x → get_or new x 0 ≡ get_or left x 0) → ((x : ℕ) → Contains gs x → mark_at marked x ≡ mark_at marks x) → IsLine c root new marked gs
line_same c root left new marks marked [] line same_left same_marks = tt
line_same c root left new marks marked (g ∷ gs) line same_left same_marks = (
  line.0,
  same_marks g (0, omega arith, refl) ∙ line.1,
  line.2,
  reached_same c root left new gs g line.3 (λ x at. same_left x (Contains-cons g gs x at)),
  line_same c root left new marks marked gs line.4 (λ x at. same_left x (Contains-cons g gs x at)) (λ x at. same_marks x (Contains-cons g gs x at)),
)

root_open : (c : Netlist) (root : ℕ) (left : List ℕ) (marks : List Mark) (g : ℕ) (gs : List ℕ) → IsLine c root left marks (g ∷ gs) → mark_at marks root ≡ Open
root_open c root left marks g [] line = ap (λ (n : ℕ). mark_at marks n) line.3 ∙ line.1
root_open c root left marks g (f ∷ fs) line = root_open c root left marks f fs line.4

-- where the last gate reads an open one, each gate of the line does
line_reads : (c : Netlist) (root : ℕ) (left : List ℕ) (marks : List Mark) → ((x : ℕ) → x < length c.nets → get_or left x 0 ≤ (net_at c x).pin_count) → (g : ℕ) (gs : List ℕ) → IsLine c root left marks (g ∷ gs) → (h : ℕ) → Contains (reads c g) h → mark_at marks h ≡ Open
    → (k x : ℕ) → k < length (g ∷ gs) → get_or (g ∷ gs) k x ≡ x → (y : ℕ) × Contains (reads c x) y × (mark_at marks y ≡ Open)
line_reads c root left marks fits g gs line h read stands zero x lt is = (h, subst (λ (n : ℕ). Contains (reads c n) h) is read, stands)
line_reads c root left marks fits g [] line h read stands (suc k) x lt is = absurd (omega arith)
line_reads c root left marks fits g (f ∷ fs) line h read stands (suc k) x lt is =
    let from : Contains (reads c f) (operand c f (get_or left f 0 - 1)) = reads_at c f (get_or left f 0 - 1) (omega (arith, line.3.0, fits f line.4.0)) in
    line_reads c root left marks fits f fs line.4 g (subst (λ (n : ℕ). Contains (reads c f) n) line.3.1 from) line.1 k x (omega arith) is

pushed_line : (path : List ℕ) (g : ℕ) → reverse (path ++ g ∷ []) ≡ g ∷ reverse path
pushed_line path g = reverse-append path (g ∷ [])

pub top_line : (path : List ℕ) (g : ℕ) → IsTop path g → reverse path ≡ g ∷ reverse (take (length path - 1) path)
top_line path g top =
    let n = length path - 1 in
    let e : path ≡ take n path ++ g ∷ [] = sym (take_all (n + 1) path (omega (arith, top.some))) ∙ take_more path n 0 (omega (arith, top.some)) ∙ ap (λ (x : ℕ). take n path ++ x ∷ []) top.last in
    ap reverse e ∙ pushed_line (take n path) g

-- one more gate in the order

order_more : (c : Netlist) (order : List ℕ) (g : ℕ) → IsPartOrder c order → g < length c.nets → is_gate c g ≡ true → ((h : ℕ) → Contains (reads c g) h → is_gate c h ≡ true → Contains order h) → IsPartOrder c (order ++ g ∷ [])
order_more c order g ordered lt gate before = record {
  gates = λ k in'. elim (cases_lt k (length order)) [
    | inl old ↦ rw (get_or_append_left order (g ∷ []) 0 k old) (ordered.gates k old)
    | inr new ↦ rw (get_or_push order g 0 k (omega (arith, length_push order g))) (lt, gate)
  ];
  after_read = λ k h in' read is. elim (cases_lt k (length order)) [
    | inl old ↦
        let from : Contains (reads c (get_or order k 0)) h = subst (λ (n : ℕ). Contains (reads c n) h) (get_or_append_left order (g ∷ []) 0 k old) read in
        subst (λ (l : List ℕ). Contains l h) (sym (take-append-le k order (g ∷ []) (omega arith))) (ordered.after_read k h old from is)
    | inr new ↦
        let e : length order ≡ k = omega (arith, length_push order g) in
        let from : Contains (reads c g) h = subst (λ (n : ℕ). Contains (reads c n) h) (get_or_push order g 0 k e) read in
        subst (λ (l : List ℕ). Contains l h) (sym (take_at order (g ∷ []) k e)) (before h from is)
  ];
}

order_short : (c : Netlist) (root : ℕ) (s : State) → IsSearch c root s → length s.order ≤ length c.nets
order_short c root s known = omega (arith, known.counted, count_by-le-length (is_gate c) (net_numbers c), length-range_with_len 0 (length c.nets))

-- the steps

pub entered : (c : Netlist) (root : ℕ) (left : List ℕ) (marks : List Mark) (path order : List ℕ) (g : ℕ) → IsSearch c root (state left marks path order) → g < length c.nets → mark_at marks g ≡ Fresh → IsReached c root left (reverse path) g → IsSearch c root (state left (set marks g Open) (path ++ g ∷ []) order)
entered c root left marks path order g known lt fresh reached =
    let inside : g < length marks = omega (arith, known.marks_size) in
    let not_on : Contains (reverse path) g → ⊥ = λ at. open_or_fresh (mark_at marks g) (line_open c root left marks (reverse path) known.line at.0 g at.1 at.2) fresh in
    let line : IsLine c root left (set marks g Open) (g ∷ reverse path) = (lt, get_or-set_same marks g Open Settled inside, not_on, reached, line_same c root left left marks (set marks g Open) (reverse path) known.line (λ x at. refl) (λ x at. get_or-set_other marks g x Open Settled (λ e. not_on (subst (λ (n : ℕ). Contains (reverse path) n) e at)))) in
    record {
      left_size = known.left_size;
      marks_size = length-set marks g Open ∙ known.marks_size;
      left_fits = known.left_fits;
      passed = λ x i in' ge below. mark_kept marks g Open Settled (operand c x i) (known.passed x i in' ge below) (fresh_or_settled (mark_at marks g) fresh);
      gates = λ x in' not_settled. known.gates x in' (λ e. not_settled (mark_kept marks g Open Settled x e (fresh_or_settled (mark_at marks g) fresh)));
      settled = λ x in' gate e. known.settled x in' gate (mark_before marks g Open Settled x inside e (open_or_settled Open refl));
      ordered = known.ordered;
      counted = omega (arith, known.counted, sum_by-set unsettled marks g Open Settled inside, ap unsettled fresh);
      smaller = λ x below. mark_kept marks g Open Settled x (known.smaller x below) (fresh_or_settled (mark_at marks g) fresh);
      line = subst (λ (l : List ℕ). IsLine c root left (set marks g Open) l) (sym (pushed_line path g)) line;
      open_on_path = λ x e. subst (λ (l : List ℕ). Contains l x) (sym (pushed_line path g)) (elim (cases_eq x g) [
        | inl same ↦ (0, omega arith, sym same)
        | inr other ↦ Contains-cons g (reverse path) x (known.open_on_path x (sym (get_or-set_other marks g x Open Settled other) ∙ e))
      ]);
    }

pub settled_top : (c : Netlist) (root : ℕ) (left : List ℕ) (marks : List Mark) (path order : List ℕ) (g : ℕ) → IsSearch c root (state left marks path order) → IsTop path g → get_or left g 0 ≡ 0 → IsSearch c root (state left (set marks g Settled) (take (length path - 1) path) (order ++ g ∷ []))
settled_top c root left marks path order g known top none =
    let below = reverse (take (length path - 1) path) in
    let line : IsLine c root left marks (g ∷ below) = subst (λ (l : List ℕ). IsLine c root left marks l) (top_line path g top) known.line in
    let inside : g < length marks = omega (arith, known.marks_size, line.0) in
    let gate : is_gate c g ≡ true = known.gates g line.0 (open_or_settled (mark_at marks g) line.1) in
    record {
      left_size = known.left_size;
      marks_size = length-set marks g Settled ∙ known.marks_size;
      left_fits = known.left_fits;
      passed = λ x i in' ge low. settled_kept marks g (operand c x i) inside (known.passed x i in' ge low);
      gates = λ x in' not_settled. known.gates x in' (λ e. not_settled (settled_kept marks g x inside e));
      settled = λ x in' is e. elim (cases_eq x g) [
        | inl same ↦ subst (λ (n : ℕ). Contains (order ++ g ∷ []) n) (sym same) (Contains-push order g)
        | inr other ↦ Contains-append_left order (g ∷ []) x (known.settled x in' is (sym (get_or-set_other marks g x Settled Settled other) ∙ e))
      ];
      ordered = order_more c order g known.ordered line.0 gate (λ h read is.
          let at = reads_from c g h read in
          let settled : mark_at marks h ≡ Settled = ap (λ (n : ℕ). mark_at marks n) (sym at.2) ∙ known.passed g at.0 line.0 (omega arith) at.1 in
          known.settled h (gate_in_range c h is) is settled);
      counted = omega (arith, known.counted, length_push order g, sum_by-set unsettled marks g Settled Settled inside, ap unsettled line.1);
      smaller = λ x low. settled_kept marks g x inside (known.smaller x low);
      line = line_same c root left left marks (set marks g Settled) below line.4 (λ x at. refl) (λ x at. get_or-set_other marks g x Settled Settled (λ e. line.2 (subst (λ (n : ℕ). Contains below n) e at)));
      open_on_path = λ x e.
          let was : mark_at marks x ≡ Open = mark_before marks g Settled Open x inside e (λ d. open_or_settled Open refl (sym d)) in
          let at : Contains (g ∷ below) x = subst (λ (l : List ℕ). Contains l x) (top_line path g top) (known.open_on_path x was) in
          in_rest g below x at.0 at.1 at.2 (λ same. open_or_settled (mark_at (set marks g Settled) x) e (ap (λ (n : ℕ). mark_at (set marks g Settled) n) (sym same) ∙ get_or-set_same marks g Settled Settled inside));
    }
  where
    in_rest : (g : ℕ) (gs : List ℕ) (x k : ℕ) → k < length (g ∷ gs) → get_or (g ∷ gs) k x ≡ x → (g ≡ x → ⊥) → Contains gs x
    in_rest g gs x zero lt is other = absurd (other is)
    in_rest g gs x (suc k) lt is other = (k, omega arith, is)

pub passed_operand : (c : Netlist) (root : ℕ) (left : List ℕ) (marks : List Mark) (path order : List ℕ) (g : ℕ) → IsSearch c root (state left marks path order) → IsTop path g → 0 < get_or left g 0 → mark_at marks (operand c g (get_or left g 0 - 1)) ≡ Settled → IsSearch c root (state (set left g (get_or left g 0 - 1)) marks path order)
passed_operand c root left marks path order g known top some is_settled =
    let below = reverse (take (length path - 1) path) in
    let fewer = get_or left g 0 - 1 in
    let line : IsLine c root left marks (g ∷ below) = subst (λ (l : List ℕ). IsLine c root left marks l) (top_line path g top) known.line in
    let here : get_or (set left g fewer) g 0 ≡ fewer = get_or-set_same left g fewer 0 (omega (arith, known.left_size, line.0)) in
    let same : (x : ℕ) → Contains below x → get_or (set left g fewer) x 0 ≡ get_or left x 0 = λ x at. get_or-set_other left g x fewer 0 (λ e. line.2 (subst (λ (n : ℕ). Contains below n) e at)) in
    let new : IsLine c root (set left g fewer) marks (g ∷ below) = (line.0, line.1, line.2, reached_same c root left (set left g fewer) below g line.3 same, line_same c root left (set left g fewer) marks marks below line.4 same (λ x at. refl)) in
    record {
      left_size = length-set left g fewer ∙ known.left_size;
      marks_size = known.marks_size;
      left_fits = λ x in'. elim (cases_eq x g) [
        | inl at ↦ omega (arith, known.left_fits g line.0, ap (λ (n : ℕ). get_or (set left g fewer) n 0) at, here, ap (λ (n : ℕ). (net_at c n).pin_count) at)
        | inr other ↦ omega (arith, known.left_fits x in', get_or-set_other left g x fewer 0 other)
      ];
      passed = λ x i in' ge low. elim (cases_eq x g) [
        | inl at ↦
            let from : fewer ≤ i = omega (arith, ap (λ (n : ℕ). get_or (set left g fewer) n 0) at, here) in
            let inside : i < (net_at c g).pin_count = omega (arith, ap (λ (n : ℕ). (net_at c n).pin_count) at) in
            ap (λ (n : ℕ). mark_at marks (operand c n i)) at ∙ elim (cases_eq i fewer) [
              | inl now ↦ ap (λ (n : ℕ). mark_at marks (operand c g n)) now ∙ is_settled
              | inr before ↦ known.passed g i line.0 (omega arith) inside
            ]
        | inr other ↦ known.passed x i in' (omega (arith, get_or-set_other left g x fewer 0 other)) low
      ];
      gates = known.gates;
      settled = known.settled;
      ordered = known.ordered;
      counted = known.counted;
      smaller = known.smaller;
      line = subst (λ (l : List ℕ). IsLine c root (set left g fewer) marks l) (sym (top_line path g top)) new;
      open_on_path = known.open_on_path;
    }

-- the last gate reads one that is on the path
pub closes_loop : (c : Netlist) (root : ℕ) (s : State) (g : ℕ) → IsSearch c root s → IsTop s.path g → 0 < get_or s.left g 0 → mark_at s.marks (operand c g (get_or s.left g 0 - 1)) ≡ Open → IsLeastWithoutLevel c root
closes_loop c root s g known top some stands =
    let below = reverse (take (length s.path - 1) s.path) in
    let line : IsLine c root s.left s.marks (g ∷ below) = subst (λ (l : List ℕ). IsLine c root s.left s.marks l) (top_line s.path g top) known.line in
    let begins : mark_at s.marks root ≡ Open = root_open c root s.left s.marks g below line in
    let read : Contains (reads c g) (operand c g (get_or s.left g 0 - 1)) = reads_at c g (get_or s.left g 0 - 1) (omega (arith, known.left_fits g line.0)) in
    let in_range : (x : ℕ) → mark_at s.marks x ≡ Open → x < length c.nets = λ x is. omega (arith, open_in_range s.marks x is, known.marks_size) in
    let is_open_gate : (x : ℕ) → mark_at s.marks x ≡ Open → is_gate c x ≡ true = λ x is. known.gates x (in_range x is) (open_or_settled (mark_at s.marks x) is) in
    record {
      in_range = in_range root begins;
      gate = is_open_gate root begins;
      no_level = stuck_has_no_level c (λ x. mark_at s.marks x ≡ Open) (λ x is.
          let at : Contains (g ∷ below) x = subst (λ (l : List ℕ). Contains l x) (top_line s.path g top) (known.open_on_path x is) in
          (is_open_gate x is, line_reads c root s.left s.marks known.left_fits g below line (operand c g (get_or s.left g 0 - 1)) read stands at.0 x at.1 at.2)) root begins;
      least = λ x lt is. listed_has_level c s.order known.ordered (order_short c root s known) x (known.settled x (gate_in_range c x is) is (known.smaller x lt));
    }
