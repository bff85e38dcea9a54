-- The faults that are marked after each block, and the list of the suspects.
use Rattle.std.proofs.Common.{◌≡◌, ℕ, zero, suc, ◌+◌, ◌*◌, ◌-◌, ◌/◌, ◌<◌, Bool, true, false, nat_lt, ◌&&◌, ◌||◌, List, [], ◌∷◌, length, map, replicate, get_or, set, Some, Result, Ok, Err, refl, sym, ap, subst, ◌∙◌, inl, inr, arith}
use Rattle.std.specs.Prelude.{Contains, flat_map, filter, slice_get, IfOk}
use Rattle.std.specs.List.{list_any, range_with_len, enumerate_from}
use Rattle.std.proofs.lemmas.Bool.{cases_Bool, cases_lt, cases_eq, both_ways, and_parts, and_from, lt-ltb, ltb-true}
use Rattle.std.proofs.lemmas.List.{length-set, get_or-set_same, get_or-set_other}
use Rattle.std.proofs.lemmas.List.Folds.{list_any-append}
use Rattle.std.proofs.lemmas.Option.{get_or_from_slice_get, slice_get_within}
use Rattle.scan_model.specs.declared.fault.Fault.{Fault}
use Rattle.scan_model.specs.declared.logs.Bit.{Bit}
use Rattle.scan_model.specs.declared.logs.LogFacts.{LogFacts}
use Rattle.scan_model.specs.Marks.{is_marked}
use Rattle.scan_model.specs.Walks.{IsEvaluationOrder}
use Rattle.scan_model.specs.ScanTest.{ScanTest, IsScanTest, pattern_at, points_of, point_at}
use Rattle.scan_model.specs.Universe.{universe}
use Rattle.scan_model.specs.Coverage.{bit_of}
use Rattle.scan_model.specs.declared.values.Tri.{Tri}
use Rattle.scan_model.specs.Response.{expected_rows}
use Rattle.scan_model.specs.Classes.{class, is_failing}
use Rattle.scan_model.specs.MatchCounts.{counts_of}
use Rattle.scan_model.specs.Suspect.{can_explain, is_suspect, suspects}
use Rattle.scan_model.proofs.Orders.{filter_range_all}
use Rattle.scan_model.proofs.FanSweeps.{same_answer}
use Rattle.scan_model.proofs.counting.Suspects.{no_suspect-no_fail}
use Rattle.lane_rows.specs.declared.block.Block.{Block}
use Rattle.lane_rows.specs.GoodRows.{pattern_of, AreBlockRows}
use Rattle.log_rows.specs.declared.side.Side.TheVariants.{Failing}
use Rattle.log_rows.specs.PlaceRows.{AreSideLanes}
use Rattle.log_rows.proofs.SideRows.{on_side_of}
use Rattle.explained_lanes.specs.Fails.{fails_at, explains_in, IsWithin, Tells}
use Rattle.back_trace.specs.FailRows.{fails_in, AreFailRows}
use Rattle.back_trace.specs.SuspectMarks.{AreMarked, no_fault}
use Rattle.explained_lanes.proofs.Ranges.{any_at, any_there}

-- ---- bits by pattern and point

any_of_map : (p : Bit → Bool) (w : ℕ) (ks : List ℕ) → list_any p (map (bit_of w) ks) ≡ list_any (λ k. p (bit_of w k)) ks
any_of_map p w [] = refl
any_of_map p w (k ∷ ks) = ap (λ (b : Bool). p (bit_of w k) || b) (any_of_map p w ks)

any_of_rows : (p : Bit → Bool) (f : ℕ → List Bit) (ws : List ℕ) → list_any p (flat_map f ws) ≡ list_any (λ w. list_any p (f w)) ws
any_of_rows p f [] = refl
any_of_rows p f (w ∷ ws) = list_any-append p (f w) (flat_map f ws) ∙ ap (λ (b : Bool). list_any p (f w) || b) (any_of_rows p f ws)

module _ (t : ScanTest) (logs : List LogFacts) where
  abbrev pub fault_at : ℕ → Fault
  fault_at p = get_or (universe t) p no_fault

  abbrev pub explained_at : Fault → ℕ → ℕ → Bool
  explained_at f w k = is_failing (class t logs (bit_of w k)) && can_explain t f (pattern_at t w).kind w (point_at t k)

  suspect_from : (f : Fault) (w k : ℕ) → w < length t.patterns → k < length (points_of t) → explained_at f w k ≡ true → is_suspect t logs f ≡ true
  suspect_from f w k lw lk e =
      any_of_rows (λ x. explained_at f x.pattern x.point) (λ v. map (bit_of v) (range_with_len 0 (length (points_of t)))) (range_with_len 0 (length t.patterns))
      ∙ any_at (λ v. list_any (λ x. explained_at f x.pattern x.point) (map (bit_of v) (range_with_len 0 (length (points_of t))))) (length t.patterns) w lw
      (any_of_map (λ x. explained_at f x.pattern x.point) w (range_with_len 0 (length (points_of t))) ∙ any_at (explained_at f w) (length (points_of t)) k lk e)

  suspect_there : (f : Fault) → is_suspect t logs f ≡ true → (w : ℕ) × (k : ℕ) × (w < length t.patterns) × (k < length (points_of t)) × (explained_at f w k ≡ true)
  suspect_there f e =
      let r = any_there (λ v. list_any (λ x. explained_at f x.pattern x.point) (map (bit_of v) (range_with_len 0 (length (points_of t))))) (length t.patterns)
      (sym (any_of_rows (λ x. explained_at f x.pattern x.point) (λ v. map (bit_of v) (range_with_len 0 (length (points_of t)))) (range_with_len 0 (length t.patterns))) ∙ e) in
      let q = any_there (explained_at f r.0) (length (points_of t)) (sym (any_of_map (λ x. explained_at f x.pattern x.point) r.0 (range_with_len 0 (length (points_of t)))) ∙ r.2) in
      (r.0, q.0, r.1, q.1, q.2)

  -- after so many blocks the marks are of suspects, and all that these blocks show are marked
  pub record AreMarkedTo (count : ℕ) (marks : List Bool) : Type 0 where
    pub found : (p : ℕ) → is_marked marks p ≡ true → is_suspect t logs (fault_at p) ≡ true
    pub all : (p w k : ℕ) → p < length (universe t) → w < 512 * count → w < length t.patterns → k < length (points_of t) → explained_at (fault_at p) w k ≡ true → is_marked marks p ≡ true

  pub marked_none : (marks : List Bool) → ((p : ℕ) → is_marked marks p ≡ false) → AreMarkedTo 0 marks
  marked_none marks none = record {
    found = λ p e. absurd (both_ways (is_marked marks p) (none p) e);
    all = λ p w k lp lw lt lk e. absurd (omega arith);
  }

  pub marked_more : (b : ℕ) (rows : List (List ℕ)) (old new : List Bool) → AreFailRows t logs b rows → AreMarked t b rows (universe t) (length (universe t)) old new → AreMarkedTo b old → AreMarkedTo (b + 1) new
  marked_more b rows old new fails marked so_far = record {
    found = λ p e. elim (marked.found p e) [
      | inl before ↦ so_far.found p before
      | inr now ↦
          let j = now.1.0 in
          let w = pattern_of b j in
          let r = any_there (λ k. fails_at rows j k && can_explain t (fault_at p) (pattern_at t w).kind w (point_at t k)) (length (points_of t)) now.1.2 in
          let both = and_parts (fails_at rows j r.0) (can_explain t (fault_at p) (pattern_at t w).kind w (point_at t r.0)) r.2 in
          let fail = and_parts (nat_lt w (length t.patterns)) (is_failing (class t logs (bit_of w r.0))) (sym (fails.fails j r.0 now.1.1 r.1) ∙ both.0) in
          suspect_from (fault_at p) w r.0 (ltb-true w (length t.patterns) fail.0) r.1 (and_from (is_failing (class t logs (bit_of w r.0))) (can_explain t (fault_at p) (pattern_at t w).kind w (point_at t r.0)) fail.1 both.1)
    ];
    all = λ p w k lp lw lt lk e. elim (cases_lt w (512 * b)) [
      | inl before ↦ marked.kept p (so_far.all p w k lp before lt lk e)
      | inr here ↦
          let j = w - 512 * b in
          let lj : j < 512 = omega (arith, lw) in
          let is : pattern_of b j ≡ w = omega (arith, here) in
          marked.all p j lp lj (here_explains p w k j lj is lt lk e)
    ];
  }
    where
      here_explains : (p w k j : ℕ) → j < 512 → pattern_of b j ≡ w → w < length t.patterns → k < length (points_of t) → explained_at (fault_at p) w k ≡ true → explains_in t (fault_at p) b rows j ≡ true
      here_explains p w k j lj is lt lk e =
          let there : pattern_of b j < length t.patterns = omega (arith, is, lt) in
          let e' : explained_at (fault_at p) (pattern_of b j) k ≡ true = ap (λ (v : ℕ). explained_at (fault_at p) v k) is ∙ e in
          let both = and_parts (is_failing (class t logs (bit_of (pattern_of b j) k))) (can_explain t (fault_at p) (pattern_at t (pattern_of b j)).kind (pattern_of b j) (point_at t k)) e' in
          any_at (λ m. fails_at rows j m && can_explain t (fault_at p) (pattern_at t (pattern_of b j)).kind (pattern_of b j) (point_at t m)) (length (points_of t)) k lk
          (and_from (fails_at rows j k) (can_explain t (fault_at p) (pattern_at t (pattern_of b j)).kind (pattern_of b j) (point_at t k))
          (fails.fails j k lj lk ∙ and_from (nat_lt (pattern_of b j) (length t.patterns)) (is_failing (class t logs (bit_of (pattern_of b j) k))) (lt-ltb (pattern_of b j) (length t.patterns) there) both.0) both.1)

  marked_all : (blocks : ℕ) (marks : List Bool) → blocks ≡ (length t.patterns + 511) / 512 → AreMarkedTo blocks marks → (p : ℕ) → p < length (universe t) → is_marked marks p ≡ is_suspect t logs (fault_at p)
  marked_all blocks marks whole are p lt = same_answer (is_marked marks p) (is_suspect t logs (fault_at p)) (are.found p)
      (λ e. let s = suspect_there (fault_at p) e in are.all p s.0 s.1 lt (omega (arith, s.2, whole)) s.2 s.3 s.4)

  -- ---- the list

  listed : (q : Fault → Bool) (m : ℕ → Bool) (k : ℕ) (fs : List Fault) → ((i : ℕ) → i < length fs → m (k + i) ≡ q (get_or fs i no_fault)) → filter m (range_with_len k (length fs)) ≡ map (λ e. e.0) (filter (λ e. q e.1) (enumerate_from k fs))
  listed q m k [] same = refl
  listed q m k (f ∷ fs) same =
      let here : m k ≡ q f = ap m (omega arith) ∙ same 0 (omega arith) in
      let rest = listed q m (k + 1) fs (λ i lt. ap m (omega arith) ∙ same (suc i) (omega arith)) in
      elim (cases_Bool (q f)) [
        | inl yes' ↦ rw (here, yes', rest) refl
        | inr no' ↦ rw (here, no', rest) refl
      ]

  pub marks_are_suspects : (blocks : ℕ) (marks : List Bool) → blocks ≡ (length t.patterns + 511) / 512 → length marks ≡ length (universe t) → AreMarkedTo blocks marks → filter (is_marked marks) (range_with_len 0 (length marks)) ≡ suspects t logs
  marks_are_suspects blocks marks whole len are =
      ap (λ (n : ℕ). filter (is_marked marks) (range_with_len 0 n)) len
      ∙ listed (is_suspect t logs) (is_marked marks) 0 (universe t) (λ i lt. ap (is_marked marks) (omega arith) ∙ marked_all blocks marks whole are i lt)

  -- a fault outside explains nothing
  pub outside_counts_none : (sound : IsScanTest t) (order : List ℕ) → IsEvaluationOrder t.netlist order → (places : List ℕ) (k : ℕ) (f : Fault) → places ≡ suspects t logs → slice_get (universe t) k ≡ Some f → ¬ (Contains places k) → (counts_of t logs f).tfsf ≡ 0
  outside_counts_none sound order ordered places k f is there out = elim (cases_Bool (is_suspect t logs f)) [
    | inl yes' ↦
        let lt = slice_get_within (universe t) k f there in
        let same : fault_at k ≡ f = get_or_from_slice_get (universe t) k f no_fault there in
        let listed' : filter (λ p. is_suspect t logs (fault_at p)) (range_with_len 0 (length (universe t))) ≡ places = listed (is_suspect t logs) (λ p. is_suspect t logs (fault_at p)) 0 (universe t) (λ i in'. ap (λ (n : ℕ). is_suspect t logs (fault_at n)) (omega arith)) ∙ sym is in
        absurd (out (subst (λ (xs : List ℕ). Contains xs k) listed' (filter_range_all (λ p. is_suspect t logs (fault_at p)) 0 (length (universe t)) k (omega arith) (omega (arith, lt)) (ap (is_suspect t logs) same ∙ yes'))))
    | inr no' ↦ no_suspect-no_fail t sound order ordered logs f (k, slice_get_within (universe t) k f there, get_or_from_slice_get (universe t) k f f there) no'
  ]

-- ---- fault by fault

pub marks_begin : (t : ScanTest) (b : ℕ) (rows : List (List ℕ)) (faults : List Fault) (marks : List Bool) → AreMarked t b rows faults 0 marks marks
marks_begin t b rows faults marks = record {
  len = refl;
  found = λ p e. inl e;
  kept = λ p e. e;
  all = λ p j lp lj e. absurd (omega arith);
}

module _ (t : ScanTest) (b : ℕ) (rows : List (List ℕ)) (faults : List Fault) (i : ℕ) (old marks : List Bool) (so_far : AreMarked t b rows faults i old marks) (inside : i < length marks) where
  -- one that has no mark yet
  pub one_marked : (answer : Bool) → is_marked marks i ≡ false → Tells answer (explains_in t (get_or faults i no_fault) b rows) → AreMarked t b rows faults (i + 1) old (set marks i answer)
  one_marked answer blank tells =
      let same : is_marked (set marks i answer) i ≡ answer = get_or-set_same marks i answer false inside in
      let keeps : (p : ℕ) → is_marked marks p ≡ true → is_marked (set marks i answer) p ≡ true = λ p e. elim (cases_eq p i) [
        | inl at ↦ absurd (both_ways (is_marked marks i) blank (ap (is_marked marks) (sym at) ∙ e))
        | inr other ↦ get_or-set_other marks i p answer false other ∙ e
      ] in
      record {
        len = length-set marks i answer ∙ so_far.len;
        found = λ p e. elim (cases_eq p i) [
          | inl at ↦
              let j = tells.found (sym same ∙ ap (is_marked (set marks i answer)) (sym at) ∙ e) in
              inr (omega (arith, at), (j.0, j.1, ap (λ (q : ℕ). explains_in t (get_or faults q no_fault) b rows j.0) at ∙ j.2))
          | inr other ↦ elim (so_far.found p (sym (get_or-set_other marks i p answer false other) ∙ e)) [
            | inl before ↦ inl before
            | inr now ↦ inr (omega (arith, now.0), now.1)
          ]
        ];
        kept = λ p e. keeps p (so_far.kept p e);
        all = λ p j lp lj e. elim (cases_eq p i) [
          | inl at ↦ ap (is_marked (set marks i answer)) at ∙ same ∙ tells.all j lj (ap (λ (q : ℕ). explains_in t (get_or faults q no_fault) b rows j) (sym at) ∙ e)
          | inr other ↦ keeps p (so_far.all p j (omega (arith, other)) lj e)
        ];
      }

  -- one that has
  pub one_kept : is_marked marks i ≡ true → AreMarked t b rows faults (i + 1) old marks
  one_kept marked = record {
    len = so_far.len;
    found = λ p e. elim (so_far.found p e) [ inl before ↦ inl before | inr now ↦ inr (omega (arith, now.0), now.1) ];
    kept = so_far.kept;
    all = λ p j lp lj e. elim (cases_eq p i) [
      | inl at ↦ ap (is_marked marks) at ∙ marked
      | inr other ↦ so_far.all p j (omega (arith, other)) lj e
    ];
  }

-- no mark is set yet
pub blank_marks : (marks : List Bool) (n : ℕ) → marks ≡ replicate n false → (p : ℕ) → is_marked marks p ≡ false
blank_marks marks n is p = ap (λ (ms : List Bool). is_marked ms p) is ∙ go n p
  where
    go : (k m : ℕ) → get_or {A = Bool} (replicate k false) m false ≡ false
    go zero m = refl
    go (suc k) zero = refl
    go (suc k) (suc m) = go k m

-- ---- block by block

pub block_more : (t : ScanTest) (logs : List LogFacts) (b : ℕ) (rows : List (List ℕ)) (old new : List Bool) (expected : List (List Tri)) (block : Block) → expected ≡ expected_rows t
    → (patterns places : ℕ) → length rows ≡ places → (patterns ≡ length t.patterns) × (places ≡ length (points_of t)) → AreSideLanes logs expected patterns places Failing b rows → AreBlockRows t b block
    → ((i : ℕ) → AreBlockRows t i block → IsWithin t i rows → AreMarked t i rows (universe t) (length (universe t)) old new) → AreMarkedTo t logs b old → AreMarkedTo t logs (b + 1) new
block_more t logs b rows old new expected block is_expected patterns places len size lanes good marks so_far =
    let have : (j k : ℕ) → j < 512 → k < length (points_of t) → fails_at rows j k ≡ fails_in t logs (pattern_of b j) k =
    λ j k lj lk. lanes j k lj (omega (arith, lk, size.1)) ∙ on_side_of t logs expected patterns Failing (pattern_of b j) k is_expected size.0 in
    let within : IsWithin t b rows = record {
      len = len ∙ size.1;
      pattern = λ j k lj lk e. ltb-true (pattern_of b j) (length t.patterns) (and_parts (nat_lt (pattern_of b j) (length t.patterns)) (is_failing (class t logs (bit_of (pattern_of b j) k))) (sym (have j k lj lk) ∙ e)).0;
    } in
    marked_more t logs b rows old new (record { len = len ∙ size.1; fails = have }) (marks b good within) so_far

pub if_ok : {A E : Type 0} (r : Result A E) (P Q : A → Type 0) → ((x : A) → P x → Q x) → IfOk r P → IfOk r Q
if_ok (Ok x) P Q more h = more x h
if_ok (Err e) P Q more h = tt
