-- Rows of lanes, net by net.
use Rattle.std.proofs.Common.{◌≡◌, ℕ, ◌+◌, ◌<◌, Bool, true, false, eqb, ◌||◌, ◌&&◌, List, [], ◌∷◌, ◌++◌, length, get_or, set, Option, None, Result, Ok, Err, refl, sym, ap, ◌∙◌, inl, inr, arith}
use Rattle.std.specs.Prelude.{OnOk}
use Rattle.std.specs.List.{list_any, range_with_len}
use Rattle.std.proofs.lemmas.Bool.{cases_eq, eq-eqb, ne_eqb, and_from, and_parts, eqb-true}
use Rattle.std.proofs.lemmas.List.{get_or-set_same, get_or-set_other, get_or_append_left, get_or-append-add, length_push}
use Rattle.std.proofs.lemmas.List.Folds.{list_any-append}
use Rattle.scan_model.specs.Netlist.{net_numbers}
use Rattle.scan_model.specs.declared.parts.Point.{Point}
use Rattle.scan_model.specs.ScanTest.{ScanTest, points_of, point_at}
use Rattle.scan_model.specs.Cone.{in_fan_in}
use Rattle.scan_model.specs.Suspect.{observed_net, net_reaches}
use Rattle.scan_model.proofs.FanSweeps.{same_answer}
use Rattle.lane_rows.specs.Lanes.{lane}
use Rattle.explained_lanes.specs.Fails.{any_fail, fails_at}
use Rattle.back_trace.specs.Keys.{is_key, IsKeyBelow, AreKeys, observes}
use Rattle.explained_lanes.specs.Traces.{lane_at}
use Rattle.explained_lanes.proofs.Ranges.{any_at, any_there, any_same, any_more}

-- lanes added to the row of one net
pub lanes_added : (rows : List (List ℕ)) (at : ℕ) (row : List ℕ) (j : ℕ) (added : Bool) → at < length rows → lane row j ≡ (lane_at rows j at || added) → (n : ℕ) → lane_at (set rows at row) j n ≡ (lane_at rows j n || (added && eqb at n))
lanes_added rows at row j added lt is n = elim (cases_eq at n) [
  | inl same ↦ rw (eq-eqb at n same) (ap (λ (m : ℕ). lane_at (set rows at row) j m) (sym same) ∙ ap (λ (r : List ℕ). lane r j) (get_or-set_same rows at row [] lt) ∙ is ∙ ap (λ (m : ℕ). lane_at rows j m || added) same ∙ ap (λ (b : Bool). lane_at rows j n || b) (and_true added))
  | inr other ↦ rw (ne_eqb at n other) (ap (λ (r : List ℕ). lane r j) (get_or-set_other rows at n row [] (λ e. other (sym e))) ∙ no_more (lane_at rows j n) added)
]
  where
    and_true : (b : Bool) → b ≡ (b && true)
    and_true true = refl
    and_true false = refl

    no_more : (a b : Bool) → a ≡ (a || (b && false))
    no_more true b = refl
    no_more false true = refl
    no_more false false = refl

-- no lane more
pub none_added : (old : Bool) (row key : Bool) → row ≡ false → old ≡ (old || (row && key))
none_added true row key none = refl
none_added false row key none = rw none refl

-- one point more
point_step : (lanes some point key : Bool) → ((lanes && some) || ((point && lanes) && key)) ≡ (lanes && (some || (point && key)))
point_step true true true true = refl
point_step true true true false = refl
point_step true true false key = refl
point_step true false true true = refl
point_step true false true false = refl
point_step true false false key = refl
point_step false some true key = refl
point_step false some false key = refl

pub gathered_more : (lanes : Bool) (p : ℕ → Bool) (k : ℕ) (old new point key : Bool) → old ≡ (lanes && list_any p (range_with_len 0 k)) → new ≡ (old || ((point && lanes) && key)) → p k ≡ (point && key)
    → new ≡ (lanes && list_any p (range_with_len 0 (k + 1)))
gathered_more lanes p k old new point key so_far is here = is ∙ rw (so_far, any_more p k, here) (point_step lanes (list_any p (range_with_len 0 k)) point key)

-- what follows where a call is right
pub on_ok : {A E : Type 0} (r : Result A E) (P Q : Type 0) → (P → Q) → OnOk r P → OnOk r Q
on_ok (Ok x) P Q more h = more h
on_ok (Err e) P Q more h = tt

-- one read more
read_step : (old row some here : Bool) → ((old || (row && some)) || (row && here)) ≡ (old || (row && (some || here)))
read_step true row some here = refl
read_step false true true here = refl
read_step false true false here = refl
read_step false false some here = refl

or_false : (b : Bool) → (b || false) ≡ b
or_false true = refl
or_false false = refl

pub reads_more : (old row : Bool) (n read : ℕ) (xs : List ℕ) (before now : Bool) → before ≡ (old || (row && list_any (λ h. eqb n h) xs)) → now ≡ (before || (row && eqb n read)) → now ≡ (old || (row && list_any (λ h. eqb n h) (xs ++ read ∷ [])))
reads_more old row n read xs before now so_far is =
    is ∙ rw (so_far, list_any-append (λ h. eqb n h) xs (read ∷ []), or_false (eqb n read)) (read_step old row (list_any (λ h. eqb n h) xs) (eqb n read))

pub eqb_turned : (a b : ℕ) → eqb a b ≡ eqb b a
eqb_turned a b = elim (cases_eq a b) [
  | inl same ↦ eq-eqb a b same ∙ sym (eq-eqb b a (sym same))
  | inr other ↦ ne_eqb a b other ∙ sym (ne_eqb b a (λ e. other (sym e)))
]

-- one key more
pub keys_more : (t : ScanTest) (belongs : ℕ → Point → Bool) (k : ℕ) (old new : List (Option ℕ)) (key : Option ℕ) → new ≡ old ++ key ∷ [] → AreKeys t belongs k old → IsKeyBelow (length t.netlist.nets) key → ((n : ℕ) → is_key key n ≡ belongs n (point_at t k))
    → AreKeys t belongs (k + 1) new
keys_more t belongs k old new key pushed so_far below is = rw pushed (record {
  len = omega (arith, so_far.len, length_push old key);
  below = λ m lt. elim (cases_eq m k) [
    | inl same ↦ rw (same, last) below
    | inr other ↦ rw (get_or_append_left old (key ∷ []) None m (omega (arith, so_far.len, other))) (so_far.below m (omega (arith, other)))
  ];
  key = λ m n lt. elim (cases_eq m k) [
    | inl same ↦ rw (same, last) (is n)
    | inr other ↦ rw (get_or_append_left old (key ∷ []) None m (omega (arith, so_far.len, other))) (so_far.key m n (omega (arith, other)))
  ];
})
  where
    last : get_or (old ++ key ∷ []) k None ≡ key
    last = ap (λ (n : ℕ). get_or (old ++ key ∷ []) n None) (omega (arith, so_far.len)) ∙ get_or-append-add old (key ∷ []) 0 None

-- ---- what the rows of a trace have

module _ (t : ScanTest) (fails : List (List ℕ)) (keys : List (Option ℕ)) (belongs : ℕ → Point → Bool) (are : AreKeys t belongs (length (points_of t)) keys) (len : length fails ≡ length (points_of t)) (capture : List ℕ) where
  pub gathered_is : (j n : ℕ) (row : Bool) → row ≡ (lane capture j && list_any (λ k. lane_at fails j k && is_key (get_or keys k None) n) (range_with_len 0 (length fails))) → row ≡ (lane capture j && any_fail t fails j (belongs n))
  gathered_is j n row is = is ∙ ap (λ (m : ℕ). lane capture j && list_any (λ k. lane_at fails j k && is_key (get_or keys k None) n) (range_with_len 0 m)) len
      ∙ ap (λ (b : Bool). lane capture j && b) (any_same (λ k. lane_at fails j k && is_key (get_or keys k None) n) (λ k. fails_at fails j k && belongs n (point_at t k)) (length (points_of t)) (λ k lt. ap (λ (b : Bool). fails_at fails j k && b) (are.key k n lt)))

-- a net reaches what a net downstream of it is observed at
pub reached_is : (t : ScanTest) (fails rows : List (List ℕ)) (capture : List ℕ) (j n : ℕ) (row : Bool) → ((k : ℕ) → k < length (points_of t) → observed_net t (point_at t k) < length t.netlist.nets)
    → ((m : ℕ) → m < length t.netlist.nets → lane_at rows j m ≡ (lane capture j && any_fail t fails j (observes t m)))
    → row ≡ list_any (λ m. lane_at rows j m && in_fan_in t.netlist n m) (net_numbers t.netlist) → row ≡ (lane capture j && any_fail t fails j (net_reaches t n))
reached_is t fails rows capture j n row in_range seeds is = is ∙ same_answer (list_any (λ m. lane_at rows j m && in_fan_in t.netlist n m) (net_numbers t.netlist)) (lane capture j && any_fail t fails j (net_reaches t n)) to from
  where
    to : list_any (λ m. lane_at rows j m && in_fan_in t.netlist n m) (net_numbers t.netlist) ≡ true → (lane capture j && any_fail t fails j (net_reaches t n)) ≡ true
    to e =
        let r = any_there (λ m. lane_at rows j m && in_fan_in t.netlist n m) (length t.netlist.nets) e in
        let both = and_parts (lane_at rows j r.0) (in_fan_in t.netlist n r.0) r.2 in
        let seed = and_parts (lane capture j) (any_fail t fails j (observes t r.0)) (sym (seeds r.0 r.1) ∙ both.0) in
        let p = any_there (λ k. fails_at fails j k && observes t r.0 (point_at t k)) (length (points_of t)) seed.1 in
        let at = and_parts (fails_at fails j p.0) (observes t r.0 (point_at t p.0)) p.2 in
        let same : observed_net t (point_at t p.0) ≡ r.0 = eqb-true (observed_net t (point_at t p.0)) r.0 at.1 in
        and_from (lane capture j) (any_fail t fails j (net_reaches t n)) seed.0
        (any_at (λ k. fails_at fails j k && net_reaches t n (point_at t k)) (length (points_of t)) p.0 p.1 (and_from (fails_at fails j p.0) (net_reaches t n (point_at t p.0)) at.0 (ap (in_fan_in t.netlist n) same ∙ both.1)))

    from : (lane capture j && any_fail t fails j (net_reaches t n)) ≡ true → list_any (λ m. lane_at rows j m && in_fan_in t.netlist n m) (net_numbers t.netlist) ≡ true
    from e =
        let both = and_parts (lane capture j) (any_fail t fails j (net_reaches t n)) e in
        let p = any_there (λ k. fails_at fails j k && net_reaches t n (point_at t k)) (length (points_of t)) both.1 in
        let at = and_parts (fails_at fails j p.0) (net_reaches t n (point_at t p.0)) p.2 in
        let o = observed_net t (point_at t p.0) in
        let seed : lane_at rows j o ≡ true = seeds o (in_range p.0 p.1) ∙ and_from (lane capture j) (any_fail t fails j (observes t o)) both.0
        (any_at (λ k. fails_at fails j k && observes t o (point_at t k)) (length (points_of t)) p.0 p.1 (and_from (fails_at fails j p.0) (observes t o (point_at t p.0)) at.0 (eq-eqb o o refl))) in
        any_at (λ m. lane_at rows j m && in_fan_in t.netlist n m) (length t.netlist.nets) o (in_range p.0 p.1) (and_from (lane_at rows j o) (in_fan_in t.netlist n o) seed at.1)
