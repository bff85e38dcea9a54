-- One step of a walk along a chain: the points that show what they showed before.
use Rattle.std.proofs.Common.{◌≡◌, ◌≢◌, ℕ, ◌+◌, ◌<◌, Bool, false, eqb, ltb, ◌&&◌, ◌||◌, List, length, Option, Some, None, refl, sym, ap, ◌∙◌, inl, inr, arith}
use Rattle.std.proofs.lemmas.Bool.{cases_eq, cases_lt, eq-eqb, ne_eqb, eqb-false, lt-ltb, or_parts, and_cases, both_ways}
use Rattle.std.proofs.lemmas.List.{length-map, get_or_past}
use Rattle.std.proofs.lemmas.List.FromFn.{length-map-range_with_len}
use Rattle.scan_model.specs.declared.values.Tri.{Tri}
use Rattle.scan_model.specs.declared.values.Tri.TheVariants.{Unknown}
use Rattle.scan_model.specs.declared.parts.Point.{Point}
use Rattle.scan_model.specs.declared.parts.Point.TheVariants.{Output, Cell}
use Rattle.scan_model.specs.declared.parts.PatternKind.TheVariants.{Capture, Shift}
use Rattle.scan_model.specs.declared.fault.CellKind.{CellKind}
use Rattle.scan_model.specs.declared.fault.Fault.{Fault}
use Rattle.scan_model.specs.declared.fault.Fault.TheVariants as fault
use Rattle.scan_model.specs.ChainShift.{value_at, loaded_at, load_with, unloaded_at}
use Rattle.scan_model.specs.ScanTest.{ScanTest, IsScanTest, IsPoint, chain_at, pattern_at}
use Rattle.scan_model.specs.Faults.{unloaded}
use Rattle.scan_model.specs.NetValue.{values_of, source_of, nothing_forced, net_value}
use Rattle.scan_model.specs.Response.{captured, observed}
use Rattle.scan_model.specs.Suspect.{observed_net}
use Rattle.scan_model.specs.ChainWalk.{noted}
use Rattle.scan_model.proofs.counting.Chains.{load_at, load_stays, unload_at, unload_stays, turned, turned_noted}
use Rattle.scan_model.specs.Loads.{load}
use Rattle.scan_model.proofs.counting.Shown.{Keeps, observed_sees, point_pin-net, observed_net-in_range, captured-at, shifted_same}

-- the point is none of chain h
abbrev pub IsOutside : ℕ → Point → Type 0
IsOutside h (Output k) = Unit {0}
IsOutside h (Cell g i) = g ≢ h

-- rows of other chains stay as they are
pub other_keeps : (h c : ℕ) (K : CellKind) (p : Point) → IsOutside h p → Keeps (fault.Cell h c K) p
other_keeps h c K (Output k) outside = tt
other_keeps h c K (Cell g i) outside = λ row. let off : eqb g h ≡ false = ne_eqb g h outside in (rw off refl, rw off refl)

-- a fault of a chain forces nothing in the logic
pub values_from_source : (t : ScanTest) (h c : ℕ) (K : CellKind) (w n : ℕ) → net_value t (Some (fault.Cell h c K)) w n ≡ values_of t.netlist (source_of t (Some (fault.Cell h c K)) w) nothing_forced n
values_from_source t h c K w n = refl

module _ (t : ScanTest) (sound : IsScanTest t) (w h : ℕ) (K : CellKind) where
  abbrev faulty : ℕ → Option Fault
  faulty c = Some (fault.Cell h c K)

  -- such a point shows its net, and nothing of the load or unload
  pub outside_shows_net : (c : ℕ) (p : Point) → IsPoint t p → (pattern_at t w).kind ≡ Capture → IsOutside h p → observed t (faulty c) w p ≡ net_value t (faulty c) w (observed_net t p)
  outside_shows_net c p is_point captures outside =
      observed_sees t sound (fault.Cell h c K) w p is_point captures (other_keeps h c K p outside) ∙ ap (net_value t (faulty c) w) (point_pin-net t sound p is_point)

  pub outside_stays : (c : ℕ) (p : Point) → IsPoint t p → (pattern_at t w).kind ≡ Capture → IsOutside h p
      → net_value t (faulty c) w (observed_net t p) ≡ net_value t (faulty (c + 1)) w (observed_net t p) → observed t (faulty c) w p ≡ observed t (faulty (c + 1)) w p
  outside_stays c p is_point captures outside same = outside_shows_net c p is_point captures outside ∙ same ∙ sym (outside_shows_net (c + 1) p is_point captures outside)

  -- ---- positions of the chain itself

  own_unload : (c i : ℕ) (row : List Tri) → i < length row → value_at (unloaded (faulty c) h row) i ≡ unloaded_at K c row i
  own_unload c i row lt = rw (eq-eqb h h refl) (unload_at K c i row lt)

  captured-length : (c : ℕ) → length (captured t (faulty c) w h) ≡ length (chain_at t h).cells
  captured-length c = length-map (chain_at t h).cells _

  -- what a position shows is read off the captured row
  pub own_shows : (c i : ℕ) → i < length (chain_at t h).cells → (pattern_at t w).kind ≡ Capture → observed t (faulty c) w (Cell h i) ≡ unloaded_at K c (captured t (faulty c) w h) i
  own_shows c i within captures = rw captures (own_unload c i (captured t (faulty c) w h) (omega (arith, captured-length c)))

  -- the captured value of a position is that of its net
  pub captured_net : (c i : ℕ) → i < length (chain_at t h).cells → value_at (captured t (faulty c) w h) i ≡ net_value t (faulty c) w (observed_net t (Cell h i))
  captured_net c i within = captured-at t sound (faulty c) w h i within

  captured_stays : (c i : ℕ) → (i < length (chain_at t h).cells → net_value t (faulty c) w (observed_net t (Cell h i)) ≡ net_value t (faulty (c + 1)) w (observed_net t (Cell h i)))
      → value_at (captured t (faulty c) w h) i ≡ value_at (captured t (faulty (c + 1)) w h) i
  captured_stays c i same = elim (cases_lt i (length (chain_at t h).cells)) [
    | inl within ↦ captured_net c i within ∙ same within ∙ sym (captured_net (c + 1) i within)
    | inr past ↦ get_or_past (captured t (faulty c) w h) i Unknown (omega (arith, captured-length c)) ∙ sym (get_or_past (captured t (faulty (c + 1)) w h) i Unknown (omega (arith, captured-length (c + 1))))
  ]

  -- a position of the chain whose own net and whose upper neighbour's net are as before
  pub own_stays : (c i : ℕ) → i < length (chain_at t h).cells → (pattern_at t w).kind ≡ Capture → i ≢ turned K c
      → net_value t (faulty c) w (observed_net t (Cell h i)) ≡ net_value t (faulty (c + 1)) w (observed_net t (Cell h i))
      → (i + 1 < length (chain_at t h).cells → net_value t (faulty c) w (observed_net t (Cell h (i + 1))) ≡ net_value t (faulty (c + 1)) w (observed_net t (Cell h (i + 1))))
      → observed t (faulty c) w (Cell h i) ≡ observed t (faulty (c + 1)) w (Cell h i)
  own_stays c i within captures apart here next =
      own_shows c i within captures
      ∙ unload_stays K c i (captured t (faulty c) w h) (captured t (faulty (c + 1)) w h) apart (captured_stays c i (λ lt. here)) (captured_stays c (i + 1) next)
      ∙ sym (own_shows (c + 1) i within captures)

  -- ---- a pattern that only shifts

  pub shift_outside : (c : ℕ) (p : Point) → (pattern_at t w).kind ≡ Shift → IsOutside h p → observed t (faulty c) w p ≡ observed t None w p
  shift_outside c p shifts outside = shifted_same t sound (fault.Cell h c K) w p shifts (other_keeps h c K p outside)

  loaded-length : (c : ℕ) → length (load_with K c (load t w h)) ≡ length (load t w h)
  loaded-length c = length-map-range_with_len (loaded_at K c (load t w h)) 0 (length (load t w h))

  pub shift_shows : (c i : ℕ) → i < length (load t w h) → (pattern_at t w).kind ≡ Shift → observed t (faulty c) w (Cell h i) ≡ unloaded_at K c (load_with K c (load t w h)) i
  shift_shows c i within shifts = rw (shifts, eq-eqb h h refl) (unload_at K c i (load_with K c (load t w h)) (omega (arith, loaded-length c)))

  -- the held row is the faulty load, so it changes at c + 1 alone
  pub held_stays : (c i : ℕ) → i ≢ c + 1 → value_at (load_with K c (load t w h)) i ≡ value_at (load_with K (c + 1) (load t w h)) i
  held_stays c i other = elim (cases_lt i (length (load t w h))) [
    | inl within ↦ load_at K c i (load t w h) within ∙ load_stays K c i (load t w h) other ∙ sym (load_at K (c + 1) i (load t w h) within)
    | inr past ↦ get_or_past (load_with K c (load t w h)) i Unknown (omega (arith, loaded-length c)) ∙ sym (get_or_past (load_with K (c + 1) (load t w h)) i Unknown (omega (arith, loaded-length (c + 1))))
  ]

  pub shift_stays : (c i : ℕ) → i < length (load t w h) → (pattern_at t w).kind ≡ Shift → i ≢ c → i ≢ c + 1 → observed t (faulty c) w (Cell h i) ≡ observed t (faulty (c + 1)) w (Cell h i)
  shift_stays c i within shifts not_here not_next =
      shift_shows c i within shifts
      ∙ unload_stays K c i (load_with K c (load t w h)) (load_with K (c + 1) (load t w h)) (turned_noted K c i not_here not_next) (held_stays c i not_next) (held_stays c (i + 1) (λ e. not_here (omega arith)))
      ∙ sym (shift_shows (c + 1) i within shifts)

  -- ---- a whole step

  -- what is not noted shows what it showed
  pub step_stays : (c : ℕ) (changed : ℕ → Bool) (p : Point) → IsPoint t p → (pattern_at t w).kind ≡ Capture
      → ((n : ℕ) → n < length t.netlist.nets → changed n ≡ false → net_value t (faulty c) w n ≡ net_value t (faulty (c + 1)) w n)
      → noted t h c changed p ≡ false → observed t (faulty c) w p ≡ observed t (faulty (c + 1)) w p
  step_stays c changed (Output k) is_point captures same miss =
      outside_stays c (Output k) is_point captures tt (same (observed_net t (Output k)) (observed_net-in_range t sound (Output k) is_point) miss)
  step_stays c changed (Cell g i) is_point captures same miss = elim (cases_eq g h) [
    | inr other ↦ outside_stays c (Cell g i) is_point captures other (same (observed_net t (Cell g i)) (observed_net-in_range t sound (Cell g i) is_point) (rw (ne_eqb g h other) at miss))
    | inl own ↦
        let in_range : h < length t.chains = omega (arith, own, is_point.0) in
        let within : i < length (chain_at t h).cells = omega (arith, ap (λ (m : ℕ). length (chain_at t m).cells) own, is_point.1) in
        let off : (((eqb i c) || (eqb i (c + 1))) || (changed (observed_net t (Cell h i)) || (ltb (i + 1) (length (chain_at t h).cells) && changed (observed_net t (Cell h (i + 1)))))) ≡ false = rw (eq-eqb g h own) at miss in
        let halves = or_parts (eqb i c || eqb i (c + 1)) (changed (observed_net t (Cell h i)) || (ltb (i + 1) (length (chain_at t h).cells) && changed (observed_net t (Cell h (i + 1))))) off in
        let places = or_parts (eqb i c) (eqb i (c + 1)) halves.0 in
        let nets = or_parts (changed (observed_net t (Cell h i))) (ltb (i + 1) (length (chain_at t h).cells) && changed (observed_net t (Cell h (i + 1)))) halves.1 in
        let stays = own_stays c i within captures (turned_noted K c i (eqb-false i c places.0) (eqb-false i (c + 1) places.1))
        (same (observed_net t (Cell h i)) (observed_net-in_range t sound (Cell h i) (in_range, within)) nets.0)
        (λ next. same (observed_net t (Cell h (i + 1))) (observed_net-in_range t sound (Cell h (i + 1)) (in_range, next)) (elim (and_cases (ltb (i + 1) (length (chain_at t h).cells)) (changed (observed_net t (Cell h (i + 1)))) nets.1) [
          | inl past ↦ absurd (both_ways (ltb (i + 1) (length (chain_at t h).cells)) past (lt-ltb (i + 1) (length (chain_at t h).cells) next))
          | inr unchanged ↦ unchanged
        ])) in
        ap (λ (m : ℕ). observed t (faulty c) w (Cell m i)) own ∙ stays ∙ ap (λ (m : ℕ). observed t (faulty (c + 1)) w (Cell m i)) (sym own)
  ]
