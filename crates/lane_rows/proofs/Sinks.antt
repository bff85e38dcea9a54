-- Marks that are carried back to all that leads to a net, and the places of the gates that read one.
use Rattle.std.proofs.Common.{◌≡◌, ℕ, zero, suc, ◌+◌, ◌<◌, ◌≤◌, Bool, true, false, eqb, ◌||◌, List, [], ◌∷◌, length, map, get_or, refl, sym, ap, subst, ◌∙◌, inl, inr, arith}
use Rattle.std.specs.Prelude.{Contains, filter}
use Rattle.std.specs.List.{list_any, range_with_len}
use Rattle.std.proofs.lemmas.Bool.{cases_Bool, cases_lt, eq-eqb, eqb-true, or_cases}
use Rattle.std.proofs.lemmas.List.{get_or_default}
use Rattle.std.proofs.lemmas.List.FromFn.{length-map-range_with_len, get_or-map-range_with_len}
use Rattle.scan_model.specs.declared.circuit.Driver.{Driver}
use Rattle.scan_model.specs.declared.circuit.Driver.TheVariants.{Input, Flop, Gate}
use Rattle.scan_model.specs.declared.circuit.PinPlace.{PinPlace}
use Rattle.scan_model.specs.declared.circuit.PinPlace.TheVariants as place
use Rattle.scan_model.specs.Netlist.{Netlist, IsNetlist, IsPlacedAt, is_gate, is_gate_driver, reads, driver_of, net_at, pin_at}
use Rattle.scan_model.specs.Walks.{IsEvaluationOrder, along, any_read}
use Rattle.scan_model.proofs.Along.{in_front}
use Rattle.scan_model.proofs.Orders.{filter_range_at, filter_range_all, Contains-cons}
use Rattle.scan_model.proofs.FanSweeps.{any_found, fan_node, is_read, reads_in_range}
use Rattle.lane_rows.specs.Wiring.{LeadsUp, sinks_of}
use Rattle.lane_rows.specs.Wiring.{AreMarked, AreLivePlaces, AreLiveReads, IsMadeFor, sink_place, place_at}
use Rattle.lane_rows.proofs.Once.{places_agree}

read_found : (c : Netlist) (p : ℕ → Bool) (n : ℕ) (x : Driver) → any_read c x p n ≡ true → (is_gate_driver x ≡ true) × ((r : ℕ) × Contains (reads c n) r × (p r ≡ true))
read_found c p n Input e = absurd cc
read_found c p n Flop e = absurd cc
read_found c p n (Gate kind) e = (refl, any_found p (reads c n) e)

-- a net that is marked now and wasn't is among those that were to be marked
pub only_read : (was is : Bool) (n : ℕ) (nets : List ℕ) → is ≡ (was || list_any (eqb n) nets) → is ≡ true → was ≡ false → Contains nets n
only_read was is n nets marked now before =
    let found = any_found (eqb n) nets (sym (ap (λ (b : Bool). b || list_any (eqb n) nets) before) ∙ sym marked ∙ now) in
    subst (λ (x : ℕ). Contains nets x) (sym (eqb-true n found.0 found.2)) found.1

-- Marks stay, and gates from place k on with a mark have passed it on to what they read.
pub record IsMarkedFrom (c : Netlist) (order : List ℕ) (k : ℕ) (before marked : ℕ → Bool) (len : ℕ) : Type 0 where
  pub sized : len ≡ length c.nets
  pub within : k ≤ length order
  pub kept : (n : ℕ) → before n ≡ true → marked n ≡ true
  pub passed : (i n : ℕ) → k ≤ i → i < length order → marked (get_or order i 0) ≡ true → Contains (reads c (get_or order i 0)) n → marked n ≡ true

module _ (c : Netlist) (order : List ℕ) (ordered : IsEvaluationOrder c order) where
  pub marked_back : (m k : ℕ) (start before after : ℕ → Bool) (len len2 : ℕ) → m ≡ k + 1 → len2 ≡ len → IsMarkedFrom c order m start before len
      → (before (get_or order k 0) ≡ true → (n : ℕ) → Contains (reads c (get_or order k 0)) n → after n ≡ true) → ((n : ℕ) → before n ≡ true → after n ≡ true)
      → ((n : ℕ) → after n ≡ true → before n ≡ false → Contains (reads c (get_or order k 0)) n) → IsMarkedFrom c order k start after len2
  marked_back m k start before after len len2 next same_len from passes stays only = record {
    sized = same_len ∙ from.sized;
    within = omega (arith, from.within);
    kept = λ n was. stays n (from.kept n was);
    passed = λ i n le inside is read. elim (cases_Bool (before (get_or order i 0))) [
      | inl was ↦ elim (cases_lt k i) [
        | inl later ↦ stays n (from.passed i n (omega arith) inside was read)
        | inr here ↦
            let same : i ≡ k = omega arith in
            passes (ap (λ (j : ℕ). before (get_or order j 0)) (sym same) ∙ was) n (subst (λ (j : ℕ). Contains (reads c (get_or order j 0)) n) same read)
      ]
      | inr fresh ↦
          let g = get_or order i 0 in
          let gate = ordered.gates i inside in
          let lt : k < length order = omega (arith, from.within) in
          let at = in_front order k g (omega arith) (ordered.after_read k g lt (only g is fresh) gate.1) in
          absurd (omega (arith, at.1, places_agree c order ordered at.0 i (omega (arith, at.1)) inside at.2))
    ];
  }

  pub all_marked : (k : ℕ) (start marked : ℕ → Bool) (len : ℕ) → k ≤ 0 → IsMarkedFrom c order k start marked len → (g n : ℕ) → g < length c.nets → is_gate c g ≡ true → marked g ≡ true → Contains (reads c g) n → marked n ≡ true
  all_marked k start marked len none from g n lt gate is read =
      let at = ordered.all g lt gate in
      let same : get_or order at.0 0 ≡ g = get_or_default order at.0 0 g at.1 ∙ at.2 in
      from.passed at.0 n (omega arith) at.1 (ap marked same ∙ is) (subst (λ (x : ℕ). Contains (reads c x) n) (sym same) read)

module _ (c : Netlist) (sound : IsNetlist c) where
  -- a mark goes up all walks
  marked_up : (marked : ℕ → Bool) → ((g n : ℕ) → g < length c.nets → is_gate c g ≡ true → marked g ≡ true → Contains (reads c g) n → marked n ≡ true)
      → (m d n : ℕ) → n < length c.nets → marked n ≡ true → along false (fan_node c m) d n ≡ true → marked m ≡ true
  marked_up marked closed m zero n lt is inside = absurd cc
  marked_up marked closed m (suc d) n lt is inside = elim (or_cases (eqb n m) _ inside) [
    | inl here ↦ ap marked (sym (eqb-true n m here)) ∙ is
    | inr later ↦
        let found = read_found c (along false (fan_node c m) d) n (driver_of c n) later in
        let r = found.1 in
        marked_up marked closed m d r.0 (reads_in_range c n r.0 sound lt r.1) (closed n r.0 lt found.0 is r.1) r.2
  ]

  pub leads_up : (nets : List ℕ) (marked : ℕ → Bool) → AreMarked c nets marked → LeadsUp c marked
  leads_up nets marked are m n lt is inside = marked_up marked are.closed m (suc (length c.nets)) n lt is inside

  -- ---- what reads a net

  in_map : (f : ℕ → ℕ) (xs : List ℕ) (x : ℕ) → Contains xs x → Contains (map f xs) (f x)
  in_map f [] x in' = absurd (omega (arith, in'.1))
  in_map f (y ∷ xs) x in' = go in'.0 in'.1 in'.2 (in_map f xs x)
    where
      go : (i : ℕ) → i < length (y ∷ xs) → get_or (y ∷ xs) i x ≡ x → (Contains xs x → Contains (map f xs) (f x)) → Contains (map f (y ∷ xs)) (f x)
      go zero lt is later = (0, omega arith, ap f is)
      go (suc i) lt is later = Contains-cons (f y) (map f xs) (f x) (later (i, omega arith, is))

  out_of_map : (f : ℕ → ℕ) (xs : List ℕ) (k : ℕ) → Contains (map f xs) k → (x : ℕ) × Contains xs x × (f x ≡ k)
  out_of_map f [] k in' = absurd (omega (arith, in'.1))
  out_of_map f (y ∷ xs) k in' = go in'.0 in'.1 in'.2 (out_of_map f xs k)
    where
      go : (i : ℕ) → i < length (map f (y ∷ xs)) → get_or (map f (y ∷ xs)) i k ≡ k → (Contains (map f xs) k → (x : ℕ) × Contains xs x × (f x ≡ k)) → (x : ℕ) × Contains (y ∷ xs) x × (f x ≡ k)
      go zero lt is later = (y, (0, omega arith, refl), is)
      go (suc i) lt is later = let rest = later (i, omega arith, is) in (rest.0, Contains-cons y xs rest.0 rest.1, rest.2)

  module _ (order places names keys : List ℕ) (marked : ℕ → Bool) (sinks : List (List ℕ)) (ordered : IsEvaluationOrder c order)
      (placed : AreLivePlaces order marked places) (sized : length places ≡ length c.nets)
      (live_reads : AreLiveReads c places (length order) (length c.pins) keys names)
      (len : length sinks ≡ length c.nets)
      (grouped : (n : ℕ) → n < length c.nets → get_or sinks n [] ≡ map (λ i. get_or names i 0) (filter (λ i. eqb (get_or keys i 0) n) (range_with_len 0 (length keys)))) where
    -- a pin with a place is an operand of the gate there
    sink_by_place : (n k p : ℕ) (x : PinPlace) → IsPlacedAt c p x → (pin_at c p).net ≡ n → place_at places (length order) x ≡ k → k < length order → (k < length order) × Contains (reads c (get_or order k 0)) n
    sink_by_place n k p (place.Output i) at net is lt = absurd (omega (arith, is, lt))
    sink_by_place n k p (place.Operand g i) at net is lt =
        let here : get_or order k 0 ≡ g = ap (λ (j : ℕ). get_or order j 0) (sym is) ∙ placed.only g (omega (arith, at.0, sized)) (omega (arith, is, lt)) in
        (lt, subst (λ (x : ℕ). Contains (reads c x) n) (sym here) (subst (λ (x : ℕ). Contains (reads c g) x) (ap (λ (q : ℕ). (pin_at c q).net) (sym at.2) ∙ net) (is_read c g i at.1)))

    place_in : (n k : ℕ) → n < length c.nets → Contains (sinks_of sinks n) k → (k < length order) × Contains (reads c (get_or order k 0)) n
    place_in n k lt sink =
        let read = out_of_map (λ i. get_or names i 0) (filter (λ i. eqb (get_or keys i 0) n) (range_with_len 0 (length keys))) k (subst (λ (xs : List ℕ). Contains xs k) (grouped n lt) sink) in
        let at = read.1 in
        let facts = filter_range_at (λ i. eqb (get_or keys i 0) n) 0 (length keys) at.0 read.0 at.1 in
        let in_range : read.0 < length keys = omega (arith, facts.1, at.2) in
        let pin = live_reads.each read.0 in_range in
        let stands : get_or keys read.0 0 ≡ n = eqb-true (get_or keys read.0 0) n (ap (λ (i : ℕ). eqb (get_or keys i 0) n) (sym at.2) ∙ facts.2) in
        sink_by_place n k pin.0 (pin_at c pin.0).place (sound.pin_places pin.0 pin.1) (pin.2 ∙ stands) (pin.3 ∙ read.2) (omega (arith, pin.4, read.2))

    pub made_for : IsMadeFor c order marked sinks
    made_for = record {
      wired = record {
        ordered = ordered;
        nets = omega (arith, len);
        places = place_in;
        after = λ i k lt sink.
            let gate = ordered.gates i lt in
            let at = place_in (get_or order i 0) k gate.0 sink in
            let front = in_front order k (get_or order i 0) (omega (arith, at.0)) (ordered.after_read k (get_or order i 0) at.0 at.1 gate.1) in
            omega (arith, front.1, places_agree c order ordered front.0 i (omega (arith, front.1, at.0)) lt front.2);
      };
      covers = λ n k lt live read.
          let g = get_or order k 0 in
          let gate = ordered.gates k lt in
          let inside = reads_in_range c g n sound gate.0 read in
          covered n k lt live gate.0 inside (operand_of g n gate.0 read);
    }
      where
        operand_of : (g n : ℕ) → g < length c.nets → Contains (reads c g) n → (i : ℕ) × (i < (net_at c g).pin_count) × ((pin_at c ((net_at c g).first_pin + i)).net ≡ n)
        operand_of g n lt read =
            let short : read.0 < (net_at c g).pin_count = omega (arith, read.1, length-map-range_with_len (λ p. (pin_at c p).net) (net_at c g).first_pin (net_at c g).pin_count) in
            (read.0, short, sym (get_or-map-range_with_len (λ p. (pin_at c p).net) (net_at c g).first_pin (net_at c g).pin_count read.0 ((net_at c g).first_pin + read.0) n short refl) ∙ read.2)

        covered : (n k : ℕ) → k < length order → marked (get_or order k 0) ≡ true → get_or order k 0 < length c.nets → n < length c.nets
            → (i : ℕ) × (i < (net_at c (get_or order k 0)).pin_count) × ((pin_at c ((net_at c (get_or order k 0)).first_pin + i)).net ≡ n) → Contains (sinks_of sinks n) k
        covered n k lt live g_lt n_lt op =
            let g = get_or order k 0 in
            let p = (net_at c g).first_pin + op.0 in
            let in_range : p < length c.pins = omega (arith, sound.operand_range g g_lt, op.1) in
            let at : (pin_at c p).place ≡ place.Operand g op.0 = sound.operand_places g op.0 g_lt op.1 in
            let stands : sink_place c places (length order) p ≡ k = ap (place_at places (length order)) at ∙ placed.live k lt live in
            let entry = live_reads.all p in_range (omega (arith, stands, lt)) in
            let e = entry.0 in
            let name : get_or names e 0 ≡ k = sym entry.3 ∙ stands in
            let listed = filter_range_all (λ i. eqb (get_or keys i 0) n) 0 (length keys) e (omega arith) (omega (arith, entry.1)) (eq-eqb (get_or keys e 0) n (sym entry.2 ∙ op.2)) in
            subst (λ (xs : List ℕ). Contains xs k) (sym (grouped n n_lt))
            (subst (λ (x : ℕ). Contains (map (λ i. get_or names i 0) (filter (λ i. eqb (get_or keys i 0) n) (range_with_len 0 (length keys)))) x) name (in_map (λ i. get_or names i 0) (filter (λ i. eqb (get_or keys i 0) n) (range_with_len 0 (length keys))) e listed))
