-- One net forced in a clean scratch, and the values once nothing waits.
use Rattle.std.proofs.Common.{◌≡◌, ◌≢◌, ◌⊎◌, ℕ, ◌<◌, Bool, true, false, not, cond, eqb, List, length, get_or, Option, Some, None, unwrap_or, refl, sym, ap, subst, ◌∙◌, inl, inr, arith}
use Rattle.std.specs.Prelude.{Contains}
use Rattle.std.specs.List.{list_any}
use Rattle.std.proofs.lemmas.Bool.{cases_Bool, cases_eq, both_ways, eq-eqb, eqb-true, or_cases, or_left, or_right, and_parts, and_from}
use Rattle.std.proofs.lemmas.List.{get_or-set_same, get_or-set_other, length-set, get_or_default}
use Rattle.scan_model.specs.declared.values.Tri.{Tri}
use Rattle.scan_model.specs.declared.circuit.Driver.{Driver}
use Rattle.scan_model.specs.declared.circuit.Driver.TheVariants.{Input, Flop, Gate}
use Rattle.scan_model.specs.Netlist.{Netlist, IsNetlist, reads, is_gate, driver_of}
use Rattle.scan_model.specs.Walks.{IsEvaluationOrder}
use Rattle.scan_model.specs.Cone.{in_fan_in}
use Rattle.scan_model.specs.NetValue.{Forced, driven, net_node, values_of, nothing_forced}
use Rattle.scan_model.proofs.NetValues.{net_node_local, values_of-is}
use Rattle.scan_model.proofs.FanSweeps.{any_found, any_among, in_own, in_of_read, reads_in_range}
use Rattle.scan_model.proofs.counting.Valuations.{IsValuation, agree_apart, values_meet}
use Rattle.scan_model.proofs.counting.Branches.{no_loop}
use Rattle.lane_rows.specs.Planes.{Planes}
use Rattle.lane_rows.specs.Planes.{held}
use Rattle.place_sets.specs.Places.{has_place}
use Rattle.lane_rows.specs.Wiring.{sinks_of, IsWired, Covers, LeadsUp}
use Rattle.packed_sim.specs.declared.scratch.Scratch.{Scratch}
use Rattle.packed_sim.specs.Rows.{IsClean, no_row, row_now}
use Rattle.packed_sim.specs.Propagation.{lane_now, waits, FitsScratch, IsClosed, IsFree, IsWithin, IsOpen, IsSet, HasMoved, AreGood, AreApart, is_downstream}
use Rattle.packed_sim.proofs.Turns.{waits_from, waits_at}

-- forced nets elsewhere do not tell
same_driven : (c : Netlist) (source : ℕ → Tri) (F G : Forced) (f : ℕ → Tri) (n : ℕ) (x : Driver) → F.pin ≡ G.pin → driven c source F x f n ≡ driven c source G x f n
same_driven c source F G f n Input pins = refl
same_driven c source F G f n Flop pins = refl
same_driven c source F G f n (Gate kind) pins = ap (λ (pin : ℕ → Option Tri). driven c source (record { net = F.net; pin = pin }) (Gate kind) f n) pins

pub same_node : (c : Netlist) (source : ℕ → Tri) (F G : Forced) (f : ℕ → Tri) (n : ℕ) → F.net n ≡ G.net n → F.pin ≡ G.pin → net_node c source F n f ≡ net_node c source G n f
same_node c source F G f n net pins =
    ap (λ (o : Option Tri). unwrap_or o (driven c source F (driver_of c n) f n)) net
    ∙ ap (unwrap_or (G.net n)) (same_driven c source F G f n (driver_of c n) pins)

module _ (c : Netlist) (order : List ℕ) (sound : IsNetlist c) (ordered : IsEvaluationOrder c order) where
  -- Where the nets that matter meet their equations they have their values: let the others be forced to what they have.
  module _ (source : ℕ → Tri) (F : Forced) (live : ℕ → Bool) (f : ℕ → Tri) (up : LeadsUp c live)
      (meets : (n : ℕ) → n < length c.nets → live n ≡ true → f n ≡ net_node c source F n f) where
    abbrev pinned : Forced
    pinned = record { net = λ n. cond (live n) (F.net n) (Some (f n)); pin = F.pin }

    alike : (n : ℕ) → live n ≡ true → (u : ℕ → Tri) → net_node c source pinned n u ≡ net_node c source F n u
    alike n matter u = same_node c source pinned F u n (ap (λ (t : Bool). cond t (F.net n) (Some (f n))) matter) refl

    pinned_meets : IsValuation c source pinned f
    pinned_meets n lt = elim (cases_Bool (live n)) [
      | inl matter ↦ meets n lt matter ∙ sym (alike n matter f)
      | inr idle ↦ sym (ap (λ (t : Bool). unwrap_or (cond t (F.net n) (Some (f n))) (driven c source pinned (driver_of c n) f n)) idle)
    ]

    live_of : (n : ℕ) → not (live n) ≡ false → live n ≡ true
    live_of n e = elim (cases_Bool (live n)) [ inl matter ↦ matter | inr idle ↦ absurd (both_ways (not (live n)) e (ap not idle)) ]

    pub live_values : (n : ℕ) → n < length c.nets → live n ≡ true → f n ≡ values_of c source F n
    live_values n lt matter = agree_apart c order sound ordered source source pinned F (λ m. not (live m)) f (values_of c source F)
        pinned_meets (values_meet c order sound ordered source F)
        (λ m in' here u. alike m (live_of m here) u)
        n lt (λ m idle. elim (cases_Bool (in_fan_in c m n)) [
          | inl inside ↦ absurd (both_ways (not (live m)) (ap not (up m n lt matter inside)) idle)
          | inr outside ↦ outside
        ])

  -- ---- the gates downstream of some nets

  module _ (nets : List ℕ) (in_range : (n : ℕ) → Contains nets n → n < length c.nets) (apart : AreApart c nets) where
    -- a gate that reads one of the nets, or what is downstream of them, is none of them
    not_among : (g r m : ℕ) → g < length c.nets → is_gate c g ≡ true → Contains (reads c g) r → Contains nets m → in_fan_in c m r ≡ true → list_any (eqb g) nets ≡ false
    not_among g r m lt gate read m_in inside = elim (cases_Bool (list_any (eqb g) nets)) [
      | inl among ↦
          let found = any_found (eqb g) nets among in
          let g_in : Contains nets g = subst (λ (x : ℕ). Contains nets x) (sym (eqb-true g found.0 found.2)) found.1 in
          let same : m ≡ g = apart m g m_in g_in gate (in_of_read c order sound ordered m g r lt gate read inside) in
          absurd (both_ways (in_fan_in c m r) (no_loop c order sound ordered m r (in_range m m_in) (ap (is_gate c) same ∙ gate) (subst (λ (x : ℕ). Contains (reads c x) r) (sym same) read)) inside)
      | inr none ↦ none
    ]

    pub reader_behind : (g r m : ℕ) → g < length c.nets → is_gate c g ≡ true → Contains (reads c g) r → Contains nets m → in_fan_in c m r ≡ true → is_downstream c nets g ≡ true
    reader_behind g r m lt gate read m_in inside =
        and_from (not (list_any (eqb g) nets)) (list_any (λ n. in_fan_in c n g) nets) (ap not (not_among g r m lt gate read m_in inside))
        (any_among (λ n. in_fan_in c n g) nets m m_in (in_of_read c order sound ordered m g r lt gate read inside))

    pub behind_closed : IsClosed c (is_downstream c nets)
    behind_closed g n lt gate read behind =
        let found = any_found (λ m. in_fan_in c m n) nets (and_parts (not (list_any (eqb n) nets)) (list_any (λ m. in_fan_in c m n) nets) behind).1 in
        reader_behind g n found.0 lt gate read found.1 found.2

    pub behind_free : (F : Forced) → ((n : ℕ) → list_any (eqb n) nets ≡ false → F.net n ≡ None) → ((p : ℕ) → F.pin p ≡ None) → IsFree (is_downstream c nets) F
    behind_free F free pins = record {
      nets = λ n behind. free n (off (list_any (eqb n) nets) (and_parts (not (list_any (eqb n) nets)) (list_any (λ m. in_fan_in c m n) nets) behind).0);
      pins = pins;
    }
      where
        off : (t : Bool) → not t ≡ true → t ≡ false
        off true e = cc
        off false e = refl

  -- ---- one net more

  module _ (sinks : List (List ℕ)) (good : List Planes) (wired : IsWired c order sinks) (net : ℕ) (net_lt : net < length c.nets) (row : Planes)
      (old new : Scratch) (fits : FitsScratch c order good old) (is_set : IsSet sinks net row old new) where
    abbrev now : ℕ → ℕ → Tri
    now j = lane_now new.overlay good j

    abbrev before : ℕ → ℕ → Tri
    before j = lane_now old.overlay good j

    sink_of : (k : ℕ) → has_place new.waiting k ≡ true → Contains (sinks_of sinks net) k ⊎ (has_place old.waiting k ≡ true)
    sink_of k is = elim (or_cases (list_any (eqb k) (sinks_of sinks net)) (has_place old.waiting k) (sym (is_set.waiting k) ∙ is)) [
      | inl sink ↦
          let found = any_found (eqb k) (sinks_of sinks net) sink in
          inl (subst (λ (x : ℕ). Contains (sinks_of sinks net) x) (sym (eqb-true k found.0 found.2)) found.1)
      | inr before ↦ inr before
    ]

    pub set_fits : FitsScratch c order good new
    set_fits = record {
      own = ap length is_set.overlay ∙ length-set old.overlay net (Some row) ∙ fits.own;
      good_rows = fits.good_rows;
      room = omega (arith, fits.room, is_set.room);
      moved_room = omega (arith, fits.moved_room, is_set.moved_room);
      places = λ k is. elim (sink_of k is) [ inl sink ↦ (wired.places net k net_lt sink).0 | inr was ↦ fits.places k was ];
    }

    pub set_within : (nets : List ℕ) → ((n : ℕ) → Contains nets n → n < length c.nets) → AreApart c nets → Contains nets net → IsWithin order (is_downstream c nets) old → IsWithin order (is_downstream c nets) new
    set_within nets in_range apart among within k is = elim (sink_of k is) [
      | inl sink ↦
          let at = wired.places net k net_lt sink in
          let gate = ordered.gates k at.0 in
          reader_behind nets in_range apart (get_or order k 0) net net gate.0 gate.1 at.1 among (in_own c net)
      | inr was ↦ within k was
    ]

    pub set_here : (j : ℕ) → now j net ≡ held row j
    set_here j = ap (λ (own : List (Option Planes)). lane_now own good j net) is_set.overlay
        ∙ ap (λ (o : Option Planes). held (unwrap_or o (get_or good net no_row)) j) (get_or-set_same old.overlay net (Some row) None (omega (arith, fits.own)))

    pub set_elsewhere : (m : ℕ) → m ≢ net → row_now new.overlay good m ≡ row_now old.overlay good m
    set_elsewhere m other = ap (λ (own : List (Option Planes)). row_now own good m) is_set.overlay
        ∙ ap (λ (o : Option Planes). unwrap_or o (get_or good m no_row)) (get_or-set_other old.overlay net m (Some row) None other)

    pub set_moved : HasMoved good old new
    set_moved = record {
      others = λ n rests. set_elsewhere n (λ same. both_ways (has_place new.moved n) rests (is_set.moved n ∙ or_left (eqb n net) (has_place old.moved n) (eq-eqb n net same)));
      kept = λ n was. is_set.moved n ∙ or_right (eqb n net) (has_place old.moved n) was;
    }

    -- One more net is forced, or has another source, and what reads it waits.
    pub set_keeps_open : (live : ℕ → Bool) (source1 source2 : ℕ → Tri) (F G : Forced) (j : ℕ) → Covers c order sinks live
        → ((n : ℕ) → n ≢ net → (u : ℕ → Tri) → net_node c source1 F n u ≡ net_node c source2 G n u) → ((u : ℕ → Tri) → net_node c source2 G net u ≡ held row j)
        → IsOpen c order good source1 F live j old → IsOpen c order good source2 G live j new
    set_keeps_open live source1 source2 F G j covers alike fixed open' n lt matter = elim (cases_Bool (waits order new.waiting n)) [
      | inl waits ↦ inl waits
      | inr rests ↦ inr (elim (cases_eq n net) [
        | inl same ↦ ap (now j) same ∙ set_here j ∙ sym (ap (λ (k : ℕ). net_node c source2 G k (now j)) same ∙ fixed (now j))
        | inr other ↦ elim (open' n lt matter) [
          | inl waited ↦
              let at = waits_at order old.waiting n waited in
              let has : has_place new.waiting at.0 ≡ true = is_set.waiting at.0 ∙ or_right (list_any (eqb at.0) (sinks_of sinks net)) (has_place old.waiting at.0) at.3 in
              absurd (both_ways (waits order new.waiting n) rests (waits_from order new.waiting n at.0 at.1 at.2 has))
          | inr meets ↦
              elsewhere n other
              ∙ meets
              ∙ net_node_local c source1 F n (before j) (now j) (λ m gate read. sym (elsewhere m (reads_rest n lt matter rests m gate read)))
              ∙ alike n other (now j)
        ]
      ])
    ]
      where
        elsewhere : (m : ℕ) → m ≢ net → now j m ≡ before j m
        elsewhere m other = ap (λ (p : Planes). held p j) (set_elsewhere m other)

        reads_rest : (n : ℕ) → n < length c.nets → live n ≡ true → waits order new.waiting n ≡ false → (m : ℕ) → is_gate c n ≡ true → Contains (reads c n) m → m ≢ net
        reads_rest n lt matter rests m gate read same =
            let at = ordered.all n lt gate in
            let is : get_or order at.0 0 ≡ n = get_or_default order at.0 0 n at.1 ∙ at.2 in
            let read_net : Contains (reads c (get_or order at.0 0)) net = subst (λ (x : ℕ). Contains (reads c x) net) (sym is) (subst (λ (x : ℕ). Contains (reads c n) x) same read) in
            let sink = covers net at.0 at.1 (ap live is ∙ matter) read_net in
            let has : has_place new.waiting at.0 ≡ true = is_set.waiting at.0 ∙ or_left (list_any (eqb at.0) (sinks_of sinks net)) (has_place old.waiting at.0) (any_among (eqb at.0) (sinks_of sinks net) at.0 sink (eq-eqb at.0 at.0 refl)) in
            both_ways (waits order new.waiting n) rests (waits_from order new.waiting n at.0 at.1 is has)

  -- a clean scratch has the values without fault
  pub clean_open : (good : List Planes) (s : Scratch) → IsClean s.overlay → (live : ℕ → Bool) (source : ℕ → Tri) (j : ℕ) → AreGood c good source j → IsOpen c order good source nothing_forced live j s
  clean_open good s clean live source j right n lt matter = inr (
      as_good n lt
      ∙ values_of-is c order source nothing_forced ordered n lt
      ∙ net_node_local c source nothing_forced n (values_of c source nothing_forced) (lane_now s.overlay good j) (λ m gate read. sym (as_good m (reads_in_range c n m sound lt read))))
    where
      as_good : (m : ℕ) → m < length c.nets → lane_now s.overlay good j m ≡ values_of c source nothing_forced m
      as_good m m_lt = ap (λ (o : Option Planes). held (unwrap_or o (get_or good m no_row)) j) (clean m) ∙ right m m_lt
