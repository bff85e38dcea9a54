-- A chain loaded cell by cell, from the last position down, and what its positions then show.
use Rattle.std.proofs.Common.{◌≡◌, ℕ, ◌+◌, ◌-◌, ◌<◌, ◌≤◌, Bool, true, false, cond, ◌&&◌, List, [], length, get_or, drop, ltb, Option, None, Some, unwrap_or, refl, sym, ap, subst, ◌∙◌, inl, inr, arith}
use Rattle.std.specs.Prelude.{Contains}
use mathlib.Core.Path.{fun_ext}
use Rattle.std.proofs.lemmas.Bool.{cases_eq, cases_lt, both_ways, lt-ltb}
use Rattle.std.proofs.lemmas.List.{get_or-drop, length-drop, length-map, get_or_default, get_or_past}
use Rattle.std.proofs.lemmas.List.FromFn.{length-map-range_with_len}
use Rattle.scan_model.specs.declared.values.Tri.{Tri}
use Rattle.scan_model.specs.declared.values.Tri.TheVariants.{Unknown}
use Rattle.scan_model.specs.declared.circuit.Driver.{Driver}
use Rattle.scan_model.specs.declared.circuit.Driver.TheVariants.{Input, Flop, Gate}
use Rattle.scan_model.specs.declared.fault.CellKind.{CellKind}
use Rattle.scan_model.specs.declared.fault.CellKind.TheVariants.{Stuck0, Stuck1, SlowRise, SlowFall}
use Rattle.scan_model.specs.declared.fault.Fault.TheVariants as fault
use Rattle.scan_model.specs.declared.parts.Point.{Point}
use Rattle.scan_model.specs.declared.parts.Point.TheVariants.{Cell}
use Rattle.scan_model.specs.declared.parts.PatternKind.{PatternKind}
use Rattle.scan_model.specs.declared.parts.PatternKind.TheVariants.{Capture, Shift}
use Rattle.scan_model.specs.Netlist.{Netlist, IsNetlist, is_gate, driver_of}
use Rattle.scan_model.specs.Walks.{IsEvaluationOrder}
use Rattle.scan_model.specs.ScanTest.{ScanTest, IsScanTest, IsFlop, chain_at, no_chain, pattern_at, no_pattern}
use Rattle.scan_model.specs.ChainShift.{value_at, passed, loaded_at, load_with, unload_passes}
use Rattle.scan_model.specs.Loads.{load, cell}
use Rattle.scan_model.specs.NetValue.{Forced, driven, values_of, source_of, nothing_forced, pin_value}
use Rattle.scan_model.specs.Response.{observed, captured, data_pin}
use Rattle.scan_model.specs.Suspect.{observed_net}
use Rattle.scan_model.proofs.Cells.{cell_is_leaf, cell_is_flop_of}
use Rattle.scan_model.proofs.Loads.{same_len}
use Rattle.scan_model.proofs.NetValues.{net_node_local, values_of-is}
use Rattle.scan_model.proofs.FanSweeps.{in_own, in_of_read, reads_in_range}
use Rattle.scan_model.proofs.counting.Chains.{last_position, load_moves, load_stays, load_at}
use Rattle.scan_model.proofs.counting.Sources.{source_stays, source_moves, source_last}
use Rattle.scan_model.proofs.counting.Shown.{observed_net-in_range}
use Rattle.scan_model.proofs.counting.ChainSteps.{own_shows, captured_net, shift_shows}
use Rattle.lane_rows.specs.Planes.{Planes, held}
use Rattle.lane_rows.specs.GoodRows.{pattern_of, same_kind}
use Rattle.place_sets.specs.Places.{has_place, room}
use Rattle.lane_rows.specs.Wiring.{Covers}
use Rattle.lane_rows.specs.Stimuli.{stimuli_of}
use Rattle.lane_rows.proofs.RowsOfTest.{captures_there, captures_kind}
use Rattle.packed_sim.specs.declared.good.PackedGood.{PackedGood}
use Rattle.packed_sim.specs.declared.scratch.Scratch.{Scratch}
use Rattle.packed_sim.specs.Rows.{row_now, no_row}
use Rattle.packed_sim.specs.Propagation.{lane_now, FitsScratch, IsClosed, IsFree, IsWithin, IsOpen, IsSettled, IsSet, AreApart, is_downstream}
use Rattle.packed_sim.specs.PackedParts.{BelongsTo, IsScratchIn, IsScratchOf, block_at, good_at, now_at, captures}
use Rattle.packed_sim.specs.ChainLoads.{IsOpenLoad, IsLoaded, passed_value}
use Rattle.packed_sim.proofs.Spreading.{live_values, behind_closed, behind_free, set_fits, set_here, set_elsewhere, set_keeps_open, clean_open}
use Rattle.packed_sim.proofs.Belonging.{fits_of, inside_of, are_good, own_rows, observed_live}
use Rattle.packed_sim.proofs.FaultBits.{kinds, and_false}
use Rattle.packed_sim.proofs.CellPlaces.{cells_apart, point_of_cell}

flop_driven : (c : Netlist) (s : ℕ → Tri) (u : ℕ → Tri) (n : ℕ) (d : Driver) → IsFlop d → driven c s nothing_forced d u n ≡ s n
flop_driven c s u n Input flop = absurd flop
flop_driven c s u n Flop flop = refl
flop_driven c s u n (Gate kind) flop = absurd flop

same_source : (c : Netlist) (s r : ℕ → Tri) (u : ℕ → Tri) (n : ℕ) (d : Driver) → s n ≡ r n → driven c s nothing_forced d u n ≡ driven c r nothing_forced d u n
same_source c s r u n Input same = same
same_source c s r u n Flop same = same
same_source c s r u n (Gate kind) same = refl

pub passed_is : (K : CellKind) (row : List Tri) (i : ℕ) → passed K row i ≡ passed_value K (value_at row i) (value_at row (i + 1))
passed_is Stuck0 row i = refl
passed_is Stuck1 row i = refl
passed_is SlowRise row i = refl
passed_is SlowFall row i = refl

module _ (t : ScanTest) (sound : IsScanTest t) (g : PackedGood) (belongs : BelongsTo t g) (b : ℕ) (block_lt : b < length g.rows) (h : ℕ) (h_lt : h < length t.chains) where
  abbrev L : ℕ
  L = length (chain_at t h).cells

  abbrev order : List ℕ
  order = g.wiring.order.items

  abbrev values : List Planes
  values = (block_at g b).values

  net_sound : IsNetlist t.netlist
  net_sound = sound.circuit.netlist

  ordered : IsEvaluationOrder t.netlist order
  ordered = belongs.built.wired.wired.ordered

  pub load_len : (w : ℕ) → w < length t.patterns → L ≡ length (load t w h)
  load_len w lt = same_len t.chains (pattern_at t w).loads h no_chain [] (sound.patterns.each w no_pattern lt).loads h_lt

  pub cell_lt : (i : ℕ) → i < L → cell t h i < length t.netlist.nets
  cell_lt i lt = (cell_is_flop_of t sound h i h_lt lt).0

  pub cell_leaf : (i : ℕ) → i < L → is_gate t.netlist (cell t h i) ≡ false
  cell_leaf i lt = cell_is_leaf t.netlist (cell t h i) (cell_is_flop_of t sound h i h_lt lt).1

  pub good_load : (i j : ℕ) → i < L → j < 512 → pattern_of b j < length t.patterns → good_at g b j (cell t h i) ≡ value_at (load t (pattern_of b j) h) i
  good_load i j lt lane_lt w_lt = (belongs.rows.each b block_lt).load j h i lane_lt w_lt h_lt lt

  -- ---- the cells above a position, as nets

  module _ (c : ℕ) where
    abbrev above : List ℕ
    above = drop (c + 1) (chain_at t h).cells

    above_at : (n : ℕ) → Contains above n → (i : ℕ) × (i < L) × (cell t h i ≡ n)
    above_at n in' =
        let at : in'.0 < L - (c + 1) = omega (arith, in'.1, length-drop (c + 1) (chain_at t h).cells) in
        ((c + 1) + in'.0, omega arith, sym (get_or-drop (c + 1) (chain_at t h).cells in'.0 0) ∙ get_or_default above in'.0 0 n in'.1 ∙ in'.2)

    pub above_lt : (n : ℕ) → Contains above n → n < length t.netlist.nets
    above_lt n in' = let at = above_at n in' in omega (arith, cell_lt at.0 at.1, at.2)

    pub above_apart : AreApart t.netlist above
    above_apart m n m_in n_in gate inside =
        let at = above_at n n_in in
        absurd (both_ways (is_gate t.netlist n) (ap (is_gate t.netlist) (sym at.2) ∙ cell_leaf at.0 at.1) gate)

    pub above_has : (i : ℕ) → c < i → i < L → Contains above (cell t h i)
    above_has i more lt =
        let k = i - (c + 1) in
        let short : k < length above = omega (arith, length-drop (c + 1) (chain_at t h).cells) in
        let back : (c + 1) + k ≡ i = omega arith in
        (k, short, get_or_default above k (cell t h i) 0 short ∙ get_or-drop (c + 1) (chain_at t h).cells k 0 ∙ ap (cell t h) back)

  module _ (K : CellKind) where
    abbrev source : ℕ → ℕ → ℕ → Tri
    source c w = source_of t (Some (fault.Cell h c K)) w

    -- ---- the begin

    pub clean_load : (s : Scratch) → IsScratchOf g s → 0 < L → IsOpenLoad t g b h (L - 1) K s
    clean_load s is some = record {
      fits = fits_of t sound g belongs.built b s block_lt is.inside;
      cells = λ i j lt lane_lt w_lt.
          let w = pattern_of b j in
          let len = load_len w w_lt in
          ap (λ (o : Option Planes). held (unwrap_or o (get_or values (cell t h i) no_row)) j) (is.clean (cell t h i))
          ∙ good_load i j lt lane_lt w_lt
          ∙ sym (last_position K i (load t w h) (omega (arith, len)))
          ∙ ap (λ (n : ℕ). loaded_at K (n - 1) (load t w h) i) (sym len);
      still_open = λ live j lane_lt covers up captured.
          let w = pattern_of b j in
          let same : source (L - 1) w ≡ source_of t None w = fun_ext (λ n. source_last t w sound (captures_there t w captured) (captures_kind t w captured) h K h_lt n) in
          subst (λ (r : ℕ → Tri). IsOpen t.netlist order values r nothing_forced live j s) (sym same)
          (clean_open t.netlist order net_sound ordered values s is.clean live (source_of t None w) j (are_good t sound g belongs.built (stimuli_of t) (own_rows t g belongs) b j block_lt lane_lt captured));
    }

    -- ---- one cell more

    module _ (c : ℕ) (more : c + 1 < L) (row : Planes) (old new : Scratch) (is_set : IsSet g.wiring.sinks (cell t h (c + 1)) row old new)
        (row_is : (j : ℕ) → j < 512 → pattern_of b j < length t.patterns → held row j ≡ passed K (load t (pattern_of b j) h) (c + 1)) where
      pub load_next : IsOpenLoad t g b h (c + 1) K old → IsOpenLoad t g b h c K new
      load_next open' = record {
        fits = set_fits t.netlist order net_sound ordered g.wiring.sinks values belongs.built.wired.wired net net_lt row old new open'.fits is_set;
        cells = λ i j lt lane_lt w_lt. elim (cases_eq i (c + 1)) [
          | inl same ↦
              ap (λ (k : ℕ). now_at g new b j (cell t h k)) same
              ∙ set_here t.netlist order net_sound ordered g.wiring.sinks values belongs.built.wired.wired net net_lt row old new open'.fits is_set j
              ∙ row_is j lane_lt w_lt
              ∙ sym (load_moves K c (load t (pattern_of b j) h))
              ∙ ap (loaded_at K c (load t (pattern_of b j) h)) (sym same)
          | inr other ↦
              ap (λ (p : Planes). held p j) (set_elsewhere t.netlist order net_sound ordered g.wiring.sinks values belongs.built.wired.wired net net_lt row old new open'.fits is_set (cell t h i) (cells_apart t sound h i (c + 1) h_lt lt more other))
              ∙ open'.cells i j lt lane_lt w_lt
              ∙ sym (load_stays K c i (load t (pattern_of b j) h) other)
        ];
        still_open = λ live j lane_lt covers up captured.
            let w = pattern_of b j in
            let w_lt = captures_there t w captured in
            let kind = captures_kind t w captured in
            set_keeps_open t.netlist order net_sound ordered g.wiring.sinks values belongs.built.wired.wired net net_lt row old new open'.fits is_set live (source (c + 1) w) (source c w) nothing_forced nothing_forced j covers
            (λ n other u. same_source t.netlist (source (c + 1) w) (source c w) u n (driver_of t.netlist n) (sym (source_stays t w sound w_lt kind h K h_lt c n other)))
            (λ u. flop_driven t.netlist (source c w) u net (driver_of t.netlist net) (cell_is_flop_of t sound h (c + 1) h_lt more).1 ∙ source_moves t w sound w_lt kind h K h_lt c more ∙ sym (row_is j lane_lt w_lt))
            (open'.still_open live j lane_lt covers up captured);
      }
        where
          net : ℕ
          net = cell t h (c + 1)

          net_lt : net < length t.netlist.nets
          net_lt = cell_lt (c + 1) more

    pub load_down : (n : ℕ) → 1 ≤ n → n < L → (row : Planes) (old new : Scratch) → IsSet g.wiring.sinks (cell t h n) row old new
        → ((j : ℕ) → j < 512 → pattern_of b j < length t.patterns → held row j ≡ passed K (load t (pattern_of b j) h) n) → IsOpenLoad t g b h n K old → IsOpenLoad t g b h (n - 1) K new
    load_down n some lt row old new is_set row_is open' =
        let e : n ≡ (n - 1) + 1 = omega arith in
        load_next (n - 1) (omega arith) row old new (subst (λ (k : ℕ). IsSet g.wiring.sinks (cell t h k) row old new) e is_set)
        (subst (λ (k : ℕ). (j : ℕ) → j < 512 → pattern_of b j < length t.patterns → held row j ≡ passed K (load t (pattern_of b j) h) k) e row_is)
        (subst (λ (k : ℕ). IsOpenLoad t g b h k K old) e open')

    -- the row that a position downstream of the fault is loaded with
    pub row_is : (i j : ℕ) (x : Tri) → (i < L → x ≡ good_at g b j (cell t h i)) → (L ≤ i → x ≡ Unknown) → j < 512 → pattern_of b j < length t.patterns → x ≡ value_at (load t (pattern_of b j) h) i
    row_is i j x within past lane_lt w_lt = elim (cases_lt i L) [
      | inl lt ↦ within lt ∙ good_load i j lt lane_lt w_lt
      | inr le ↦ past le ∙ sym (get_or_past (load t (pattern_of b j) h) i Unknown (omega (arith, load_len (pattern_of b j) w_lt)))
    ]

    pub passed_row_is : (i j : ℕ) (x here next : Tri) → x ≡ passed_value K here next → here ≡ value_at (load t (pattern_of b j) h) i → next ≡ value_at (load t (pattern_of b j) h) (i + 1) → x ≡ passed K (load t (pattern_of b j) h) i
    passed_row_is i j x here next is here_is next_is = is ∙ ap (λ (v : Tri). passed_value K v next) here_is ∙ ap (passed_value K (value_at (load t (pattern_of b j) h) i)) next_is ∙ sym (passed_is K (load t (pattern_of b j) h) i)

    -- ---- the end

    module _ (c : ℕ) (start s end : Scratch) (inside : IsScratchIn g start) (open' : IsOpenLoad t g b h c K s) (within : IsWithin order (is_downstream t.netlist (drop (c + 1) (chain_at t h).cells)) s)
        (rooms : room s.waiting ≡ room start.waiting) where
      pub above_closed : IsClosed t.netlist (is_downstream t.netlist (drop (c + 1) (chain_at t h).cells))
      above_closed = behind_closed t.netlist order net_sound ordered (drop (c + 1) (chain_at t h).cells) (above_lt c) (above_apart c)

      pub load_settled : FitsScratch t.netlist order values end → ((k : ℕ) → has_place end.waiting k ≡ false) → room end.waiting ≡ room s.waiting
          → ((n : ℕ) → is_gate t.netlist n ≡ false → row_now end.overlay values n ≡ row_now s.overlay values n)
          → ((live behind : ℕ → Bool) (r : ℕ → Tri) (forced : Forced) (j : ℕ) → j < 512 → Covers t.netlist order g.wiring.sinks live → IsClosed t.netlist behind → IsFree behind forced → IsWithin order behind s
          → IsOpen t.netlist order values r forced live j s → IsSettled t.netlist values r forced live j end)
          → IsLoaded t g b h c K end
      load_settled fits empty settled_rooms leaves settles = record {
        inside = inside_of t sound g belongs.built b start end inside fits empty (settled_rooms ∙ rooms);
        cells = λ i j lt lane_lt w_lt. ap (λ (p : Planes). held p j) (leaves (cell t h i) (cell_leaf i lt)) ∙ open'.cells i j lt lane_lt w_lt;
        nets = λ live covers up n j n_lt matters lane_lt captured.
            let w = pattern_of b j in
            live_values t.netlist order net_sound ordered (source c w) nothing_forced live (lane_now end.overlay values j) up
            (settles live (is_downstream t.netlist (drop (c + 1) (chain_at t h).cells)) (source c w) nothing_forced j lane_lt covers above_closed
            (behind_free t.netlist order net_sound ordered (drop (c + 1) (chain_at t h).cells) (above_lt c) (above_apart c) nothing_forced (λ m away. refl) (λ p. refl))
            within (open'.still_open live j lane_lt covers up captured))
            n n_lt matters;
      }

    -- ---- from a loaded chain on

    pub loaded_open : (c : ℕ) (s : Scratch) → IsLoaded t g b h c K s → IsOpenLoad t g b h c K s
    loaded_open c s loaded = record {
      fits = fits_of t sound g belongs.built b s block_lt loaded.inside;
      cells = loaded.cells;
      still_open = λ live j lane_lt covers up captured n n_lt matters.
          let w = pattern_of b j in
          let is : (m : ℕ) → m < length t.netlist.nets → live m ≡ true → now_at g s b j m ≡ values_of t.netlist (source c w) nothing_forced m = λ m m_lt m_live. loaded.nets live covers up m j m_lt m_live lane_lt captured in
          inr (is n n_lt matters
          ∙ values_of-is t.netlist order (source c w) nothing_forced ordered n n_lt
          ∙ net_node_local t.netlist (source c w) nothing_forced n (values_of t.netlist (source c w) nothing_forced) (now_at g s b j) (λ m gate read.
          sym (is m (reads_in_range t.netlist n m net_sound n_lt read) (up m n n_lt matters (in_of_read t.netlist order net_sound ordered m n m n_lt gate read (in_own t.netlist m))))));
    }

    -- ---- what positions show

    module _ (c : ℕ) (s : Scratch) (loaded : IsLoaded t g b h c K s) where
      pub data_net : (i j : ℕ) → i < L → j < 512 → captures t (pattern_of b j) ≡ true
          → now_at g s b j (observed_net t (Cell h i)) ≡ value_at (captured t (Some (fault.Cell h c K)) (pattern_of b j) h) i
      data_net i j lt lane_lt is =
          let at = point_of_cell t h i h_lt lt in
          let live : belongs.built.wired.live (observed_net t (Cell h i)) ≡ true = ap (λ (p : Point). belongs.built.wired.live (observed_net t p)) (sym at.2) ∙ observed_live t sound g belongs.built at.0 at.1 in
          loaded.nets belongs.built.wired.live belongs.built.wired.covers belongs.built.wired.up (observed_net t (Cell h i)) j (observed_net-in_range t sound (Cell h i) (h_lt, lt)) live lane_lt is
          ∙ sym (captured_net t sound (pattern_of b j) h K c i lt)

      pub shown_capture : (i j : ℕ) (here next : Tri) → i < L → j < 512 → captures t (pattern_of b j) ≡ true → here ≡ value_at (captured t (Some (fault.Cell h c K)) (pattern_of b j) h) i
          → next ≡ value_at (captured t (Some (fault.Cell h c K)) (pattern_of b j) h) (i + 1)
          → cond (unload_passes K c i) (passed_value K here next) here ≡ observed t (Some (fault.Cell h c K)) (pattern_of b j) (Cell h i)
      shown_capture i j here next lt lane_lt is here_is next_is =
          let w = pattern_of b j in
          let row = captured t (Some (fault.Cell h c K)) w h in
          rw (here_is, next_is) (ap (λ (v : Tri). cond (unload_passes K c i) v (value_at row i)) (sym (passed_is K row i)))
          ∙ sym (own_shows t sound w h K c i lt (captures_kind t w is))

      pub shown_shift : (i j : ℕ) (here next : Tri) → i < L → j < 512 → pattern_of b j < length t.patterns → (pattern_at t (pattern_of b j)).kind ≡ Shift
          → here ≡ value_at (load_with K c (load t (pattern_of b j) h)) i → next ≡ value_at (load_with K c (load t (pattern_of b j) h)) (i + 1)
          → cond (unload_passes K c i) (passed_value K here next) here ≡ observed t (Some (fault.Cell h c K)) (pattern_of b j) (Cell h i)
      shown_shift i j here next lt lane_lt w_lt shifts here_is next_is =
          let w = pattern_of b j in
          let row = load_with K c (load t w h) in
          rw (here_is, next_is) (ap (λ (v : Tri). cond (unload_passes K c i) v (value_at row i)) (sym (passed_is K row i)))
          ∙ sym (shift_shows t sound w h K c i (omega (arith, load_len w w_lt)) shifts)

      -- past the end there is nothing in either kind of pattern
      pub captured_past : (i w : ℕ) → L ≤ i → value_at (captured t (Some (fault.Cell h c K)) w h) i ≡ Unknown
      captured_past i w past = get_or_past (captured t (Some (fault.Cell h c K)) w h) i Unknown (omega (arith, length-map (chain_at t h).cells (λ n. pin_value t (Some (fault.Cell h c K)) w (data_pin t.netlist n))))

      pub loaded_past : (i w : ℕ) → w < length t.patterns → L ≤ i → value_at (load_with K c (load t w h)) i ≡ Unknown
      loaded_past i w w_lt past = get_or_past (load_with K c (load t w h)) i Unknown (omega (arith, load_len w w_lt, length-map-range_with_len (loaded_at K c (load t w h)) 0 (length (load t w h))))

      pub loaded_here : (i j : ℕ) → i < L → j < 512 → pattern_of b j < length t.patterns → now_at g s b j (cell t h i) ≡ value_at (load_with K c (load t (pattern_of b j) h)) i
      loaded_here i j lt lane_lt w_lt = loaded.cells i j lt lane_lt w_lt ∙ sym (load_at K c i (load t (pattern_of b j) h) (omega (arith, load_len (pattern_of b j) w_lt)))

      pub shown_is : (i j : ℕ) (p : Bool) (here next : Tri) → i < L → j < 512 → pattern_of b j < length t.patterns → p ≡ captures t (pattern_of b j)
          → here ≡ cond p (now_at g s b j (observed_net t (Cell h i))) (now_at g s b j (cell t h i))
          → (i + 1 < L → next ≡ cond p (now_at g s b j (observed_net t (Cell h (i + 1)))) (now_at g s b j (cell t h (i + 1)))) → (L ≤ i + 1 → next ≡ Unknown)
          → cond (unload_passes K c i) (passed_value K here next) here ≡ observed t (Some (fault.Cell h c K)) (pattern_of b j) (Cell h i)
      shown_is i j p here next lt lane_lt w_lt p_is here_is next_in next_past =
          let w = pattern_of b j in
          elim (kinds (pattern_at t w).kind) [
            | inl capture ↦
                let is : captures t w ≡ true = ap (λ (x : Bool). x && same_kind Capture (pattern_at t w).kind) (lt-ltb w (length t.patterns) w_lt) ∙ ap (same_kind Capture) capture in
                let on : p ≡ true = p_is ∙ is in
                shown_capture i j here next lt lane_lt is
                (here_is ∙ ap (λ (x : Bool). cond x (now_at g s b j (observed_net t (Cell h i))) (now_at g s b j (cell t h i))) on ∙ data_net i j lt lane_lt is)
                (elim (cases_lt (i + 1) L) [
                  | inl more ↦ next_in more ∙ ap (λ (x : Bool). cond x (now_at g s b j (observed_net t (Cell h (i + 1)))) (now_at g s b j (cell t h (i + 1)))) on ∙ data_net (i + 1) j more lane_lt is
                  | inr past ↦ next_past past ∙ sym (captured_past (i + 1) w past)
                ])
            | inr shift ↦
                let off : p ≡ false = p_is ∙ ap (λ (k : PatternKind). ltb w (length t.patterns) && same_kind Capture k) shift ∙ and_false (ltb w (length t.patterns)) in
                shown_shift i j here next lt lane_lt w_lt shift
                (here_is ∙ ap (λ (x : Bool). cond x (now_at g s b j (observed_net t (Cell h i))) (now_at g s b j (cell t h i))) off ∙ loaded_here i j lt lane_lt w_lt)
                (elim (cases_lt (i + 1) L) [
                  | inl more ↦ next_in more ∙ ap (λ (x : Bool). cond x (now_at g s b j (observed_net t (Cell h (i + 1)))) (now_at g s b j (cell t h (i + 1)))) off ∙ loaded_here (i + 1) j more lane_lt w_lt
                  | inr past ↦ next_past past ∙ sym (loaded_past (i + 1) w w_lt past)
                ])
          ]

-- Between two cells: those above `at` are loaded, and what waits is downstream of those above c.
pub record IsLoading (t : ScanTest) (g : PackedGood) (b h c at : ℕ) (K : CellKind) (start s : Scratch) : Type 0 where
  pub opens : IsOpenLoad t g b h at K s
  pub above_le : c ≤ at
  pub at_lt : at < length (chain_at t h).cells
  pub within : IsWithin g.wiring.order.items (is_downstream t.netlist (drop (c + 1) (chain_at t h).cells)) s
  pub rooms : room s.waiting ≡ room start.waiting

module _ (t : ScanTest) (sound : IsScanTest t) (g : PackedGood) (belongs : BelongsTo t g) (b : ℕ) (block_lt : b < length g.rows) (h : ℕ) (h_lt : h < length t.chains) (c : ℕ) (K : CellKind) (c_lt : c < length (chain_at t h).cells) where
  pub loading_begins : (start : Scratch) → IsScratchOf g start → IsLoading t g b h c (length (chain_at t h).cells - 1) K start start
  loading_begins start is = record {
    opens = clean_load t sound g belongs b block_lt h h_lt K start is (omega arith);
    above_le = omega arith;
    at_lt = omega arith;
    within = λ k has. absurd (both_ways (has_place start.waiting k) (is.inside.empty k) has);
    rooms = refl;
  }

  pub loading_ends : (at : ℕ) (start s end : Scratch) → IsScratchIn g start → at ≤ c → IsLoading t g b h c at K start s
      → FitsScratch t.netlist g.wiring.order.items (block_at g b).values end → ((k : ℕ) → has_place end.waiting k ≡ false) → room end.waiting ≡ room s.waiting
      → ((n : ℕ) → is_gate t.netlist n ≡ false → row_now end.overlay (block_at g b).values n ≡ row_now s.overlay (block_at g b).values n)
      → ((live behind : ℕ → Bool) (r : ℕ → Tri) (forced : Forced) (j : ℕ) → j < 512 → Covers t.netlist g.wiring.order.items g.wiring.sinks live → IsClosed t.netlist behind → IsFree behind forced → IsWithin g.wiring.order.items behind s
      → IsOpen t.netlist g.wiring.order.items (block_at g b).values r forced live j s → IsSettled t.netlist (block_at g b).values r forced live j end)
      → IsLoaded t g b h c K end
  loading_ends at start s end inside le loading fits empty rooms leaves settles =
      let same : at ≡ c = omega (arith, loading.above_le) in
      load_settled t sound g belongs b block_lt h h_lt K c start s end inside (subst (λ (k : ℕ). IsOpenLoad t g b h k K s) same loading.opens) loading.within loading.rooms fits empty rooms leaves settles
