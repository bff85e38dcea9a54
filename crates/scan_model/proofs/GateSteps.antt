-- What one step of the search for an order of the gates does.
use Rattle.std.proofs.Common.{◌≡◌, ℕ, ◌-◌, ◌<◌, ◌≤◌, List, [], ◌∷◌, ◌++◌, length, get_or, set, take, reverse, refl, sym, ap, subst, ◌∙◌, arith}
use Rattle.std.proofs.lemmas.List.{get_or_read, get_or-set_same}
use Rattle.std.proofs.lemmas.List.Sums.{sum_by-set}
use Rattle.scan_model.specs.declared.evaluation.Mark.{Mark}
use Rattle.scan_model.specs.declared.evaluation.Mark.TheVariants.{Fresh, Open, Settled}
use Rattle.scan_model.specs.Netlist.{Netlist, net_at}
use Rattle.scan_model.specs.GateSearch.{operand, State, state, mark_at, changes_left, IsTop, IsReached, IsLine, IsSearch, IsAtRest, Advances}
use Rattle.scan_model.proofs.GateSearch.{mark_before, top_line, entered, settled_top, passed_operand}

pub top_open : (c : Netlist) (root : ℕ) (s : State) (g : ℕ) → IsSearch c root s → IsTop s.path g → (g < length c.nets) × (mark_at s.marks g ≡ Open)
top_open c root s g known top =
    let line : IsLine c root s.left s.marks (g ∷ reverse (take (length s.path - 1) s.path)) = subst (λ (l : List ℕ). IsLine c root s.left s.marks l) (top_line s.path g top) known.line in
    (line.0, line.1)

-- what the code reads, whatever the default

pub left_read : (c : Netlist) (root : ℕ) (s : State) (left : List ℕ) (g l : ℕ) → IsSearch c root s → IsTop s.path g → left ≡ s.left → l ≡ get_or left g l → (g < length c.nets) × (l ≡ get_or s.left g 0) × (l ≤ (net_at c g).pin_count)
left_read c root s left g l known top same is =
    let here = top_open c root s g known top in
    let at : l ≡ get_or s.left g 0 = get_or_read s.left g l (omega (arith, known.left_size, here.0)) (is ∙ ap (λ (xs : List ℕ). get_or xs g l) same) 0 in
    (here.0, at, omega (arith, at, known.left_fits g here.0))

pub mark_read : (c : Netlist) (root : ℕ) (s : State) (marks : List Mark) (g : ℕ) (m : Mark) → IsSearch c root s → g < length c.nets → marks ≡ s.marks → m ≡ get_or marks g m → mark_at s.marks g ≡ m
mark_read c root s marks g m known lt same is = sym (get_or_read s.marks g m (omega (arith, known.marks_size)) (is ∙ ap (λ (xs : List Mark). get_or xs g m) same) Settled)

pub step_settled : (c : Netlist) (root : ℕ) (s new : State) (g : ℕ) → IsSearch c root s → IsTop s.path g → get_or s.left g 0 ≡ 0 → new ≡ state s.left (set s.marks g Settled) (take (length s.path - 1) s.path) (s.order ++ g ∷ []) → Advances c root s new
step_settled c root s new g known top none is =
    let here = top_open c root s g known top in
    let inside : g < length s.marks = omega (arith, known.marks_size, here.0) in
    subst (λ (t : State). Advances c root s t) (sym is) record {
      search = settled_top c root s.left s.marks s.path s.order g known top none;
      fresh = λ x e. mark_before s.marks g Settled Fresh x inside e (λ same. cc);
      fewer = omega (arith, sum_by-set changes_left s.marks g Settled Settled inside, ap changes_left here.1);
    }

pub step_entered : (c : Netlist) (root : ℕ) (s new : State) (h : ℕ) → IsSearch c root s → h < length c.nets → mark_at s.marks h ≡ Fresh → IsReached c root s.left (reverse s.path) h → new ≡ state s.left (set s.marks h Open) (s.path ++ h ∷ []) s.order → Advances c root s new
step_entered c root s new h known lt is_fresh reached is =
    let inside : h < length s.marks = omega (arith, known.marks_size) in
    subst (λ (t : State). Advances c root s t) (sym is) record {
      search = entered c root s.left s.marks s.path s.order h known lt is_fresh reached;
      fresh = λ x e. mark_before s.marks h Open Fresh x inside e (λ same. cc);
      fewer = omega (arith, sum_by-set changes_left s.marks h Open Settled inside, ap changes_left is_fresh);
    }

-- a walk that goes on to what the last gate reads
pub reached_next : (c : Netlist) (root : ℕ) (s : State) (g h : ℕ) → IsTop s.path g → 0 < get_or s.left g 0 → operand c g (get_or s.left g 0 - 1) ≡ h → IsReached c root s.left (reverse s.path) h
reached_next c root s g h top some is = subst (λ (l : List ℕ). IsReached c root s.left l h) (sym (top_line s.path g top)) (some, is)

pub step_passed : (c : Netlist) (root : ℕ) (s new : State) (g : ℕ) → IsSearch c root s → IsTop s.path g → 0 < get_or s.left g 0 → mark_at s.marks (operand c g (get_or s.left g 0 - 1)) ≡ Settled → new ≡ state (set s.left g (get_or s.left g 0 - 1)) s.marks s.path s.order → Advances c root s new
step_passed c root s new g known top some is_settled is =
    let here = top_open c root s g known top in
    let inside : g < length s.left = omega (arith, known.left_size, here.0) in
    subst (λ (t : State). Advances c root s t) (sym is) record {
      search = passed_operand c root s.left s.marks s.path s.order g known top some is_settled;
      fresh = λ x e. e;
      fewer = omega (arith, sum_by-set (λ n. n) s.left g (get_or s.left g 0 - 1) 0 inside);
    }

-- a walk begins at a root
pub begins : (c : Netlist) (root : ℕ) (s new : State) (marks : List Mark) (m : Mark) → IsAtRest c root s → root < length c.nets → marks ≡ s.marks → m ≡ get_or marks root m → m ≡ Fresh → new ≡ state s.left (set s.marks root Open) (s.path ++ root ∷ []) s.order → IsSearch c root new × (mark_at new.marks root ≡ Fresh → ⊥)
begins c root s new marks m rest lt same at is_fresh is =
    let fresh : mark_at s.marks root ≡ Fresh = mark_read c root s marks root m rest.search lt same at ∙ is_fresh in
    let reached : IsReached c root s.left (reverse s.path) root = subst (λ (p : List ℕ). IsReached c root s.left (reverse p) root) (sym rest.empty) refl in
    let opened : mark_at new.marks root ≡ Open = ap (λ (t : State). mark_at t.marks root) is ∙ get_or-set_same s.marks root Open Settled (omega (arith, rest.search.marks_size)) in
    ((step_entered c root s new root rest.search lt fresh reached is).search, λ e. open_or_fresh (mark_at new.marks root) opened e)
  where
    open_or_fresh : (m : Mark) → m ≡ Open → m ≡ Fresh → ⊥
    open_or_fresh m a b = cc
