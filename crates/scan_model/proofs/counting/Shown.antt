-- What a point shows: what its pin sees, or in a pattern that only shifts the load.
use Rattle.std.proofs.Common.{◌≡◌, ℕ, ◌+◌, ◌<◌, Bool, true, false, eqb, List, [], length, Option, Some, None, refl, sym, ap, subst, ◌∙◌, inl, inr, arith}
use Rattle.std.specs.Prelude.{slice_index_or}
use Rattle.std.proofs.lemmas.Bool.{cases_eq, eq-eqb, ne_eqb}
use Rattle.std.proofs.lemmas.List.{get_or-map}
use Rattle.scan_model.specs.declared.values.Tri.{Tri}
use Rattle.scan_model.specs.declared.values.Tri.TheVariants.{Zero, One, Unknown}
use Rattle.scan_model.specs.declared.circuit.Driver.{Driver}
use Rattle.scan_model.specs.declared.circuit.Driver.TheVariants.{Input, Flop, Gate}
use Rattle.scan_model.specs.declared.circuit.PinPlace.{PinPlace}
use Rattle.scan_model.specs.declared.circuit.PinPlace.TheVariants as place
use Rattle.scan_model.specs.declared.parts.Point.{Point}
use Rattle.scan_model.specs.declared.parts.Point.TheVariants.{Output, Cell}
use Rattle.scan_model.specs.declared.parts.PatternKind.TheVariants.{Capture, Shift}
use Rattle.scan_model.specs.declared.fault.Fault.{Fault}
use Rattle.scan_model.specs.declared.fault.Fault.TheVariants as fault
use Rattle.scan_model.specs.Values.{are_opposite}
use Rattle.scan_model.specs.Netlist.{IsNetlist, IsOperandCount, IsPlacedAt, net_at, pin_at, driver_of}
use Rattle.scan_model.specs.ChainShift.{value_at}
use Rattle.scan_model.specs.ScanTest.{ScanTest, IsScanTest, IsFlop, IsPoint, chain_at, pattern_at, points_of, point_at}
use Rattle.scan_model.specs.Faults.{loaded, unloaded}
use Rattle.scan_model.specs.NetValue.{good_value, pin_value}
use Rattle.scan_model.specs.Coverage.{bit_of}
use Rattle.scan_model.specs.Response.{is_at_output, output_pin, data_pin, captured, observed, value_of_bit, predicts_fail}
use Rattle.scan_model.specs.Suspect.{observed_net}
use Rattle.scan_model.proofs.Outputs.{at_output-true, output_pin-only, output_pin-at, output_pin-net, output_pin-in_range}
use Rattle.scan_model.proofs.Points.{points_are_points}
use Rattle.scan_model.specs.Masks.{point_pin, operand_is_point, place_is_point, IsLogic}
use Rattle.scan_model.specs.Loads.{cell}
use Rattle.scan_model.proofs.Cells.{cell_is_flop_of, one_operand, data_pin-in_range}

pub not_opposite_itself : (x : Tri) → are_opposite x x ≡ false
not_opposite_itself Zero = refl
not_opposite_itself One = refl
not_opposite_itself Unknown = refl

-- the fault leaves the row of the point's chain as it is, on the way in and on the way out
abbrev pub Keeps : Fault → Point → Type 0
Keeps f (Output k) = Unit {0}
Keeps f (Cell h i) = (row : List Tri) → (loaded (Some f) h row ≡ row) × (unloaded (Some f) h row ≡ row)

pub logic_keeps : (f : Fault) (p : Point) → IsLogic f → Keeps f p
logic_keeps (fault.Stem m v) (Output k) logic = tt
logic_keeps (fault.Stem m v) (Cell h i) logic = λ row. (refl, refl)
logic_keeps (fault.Branch q v) (Output k) logic = tt
logic_keeps (fault.Branch q v) (Cell h i) logic = λ row. (refl, refl)
logic_keeps (fault.Bridge a b kind) (Output k) logic = tt
logic_keeps (fault.Bridge a b kind) (Cell h i) logic = λ row. (refl, refl)
logic_keeps (fault.Cell g c kind) p logic = absurd logic

module _ (t : ScanTest) (sound : IsScanTest t) where
  net_sound : IsNetlist t.netlist
  net_sound = sound.circuit.netlist

  -- ---- the pin of a point

  pub data_place : (h i : ℕ) → h < length t.chains → i < length (chain_at t h).cells → (pin_at t.netlist (data_pin t.netlist (cell t h i))).place ≡ place.Operand (cell t h i) 0
  data_place h i in' within =
      let n = cell t h i in
      let flop = cell_is_flop_of t sound h i in' within in
      let one = one_operand (driver_of t.netlist n) (net_at t.netlist n).pin_count flop.1 (net_sound.operand_counts n flop.0) in
      let e : (net_at t.netlist n).first_pin ≡ (net_at t.netlist n).first_pin + 0 = omega arith in
      ap (λ (q : ℕ). (pin_at t.netlist q).place) e ∙ net_sound.operand_places n 0 flop.0 (omega (arith, one))

  pub point_pin-in_range : (p : Point) → IsPoint t p → point_pin t p < length t.netlist.pins
  point_pin-in_range (Output k) lt = output_pin-in_range t.netlist k net_sound lt
  point_pin-in_range (Cell h i) lt =
      let flop = cell_is_flop_of t sound h i lt.0 lt.1 in
      data_pin-in_range t.netlist (cell t h i) net_sound flop.0 flop.1

  pub point_pin-net : (p : Point) → IsPoint t p → (pin_at t.netlist (point_pin t p)).net ≡ observed_net t p
  point_pin-net (Output k) lt = output_pin-net t.netlist k net_sound lt
  point_pin-net (Cell h i) lt = refl

  pub observed_net-in_range : (p : Point) → IsPoint t p → observed_net t p < length t.netlist.nets
  observed_net-in_range p lt = subst (λ (m : ℕ). m < length t.netlist.nets) (point_pin-net p lt) (net_sound.pin_nets (point_pin t p) (point_pin-in_range p lt))

  -- ---- what a point shows

  pub point_at-IsPoint : (k : ℕ) → k < length (points_of t) → IsPoint t (point_at t k)
  point_at-IsPoint k lt = points_are_points t k (Output 0) lt

  pub value_of_bit-is : (f : Option Fault) (w k : ℕ) → k < length (points_of t) → value_of_bit t f (bit_of w k) ≡ observed t f w (point_at t k)
  value_of_bit-is f w k lt = get_or-map (observed t f w) (points_of t) k (Output 0) Unknown lt

  pub predicts_fail-is : (f : Fault) (w k : ℕ) → k < length (points_of t) → predicts_fail t f (bit_of w k) ≡ are_opposite (observed t None w (point_at t k)) (observed t (Some f) w (point_at t k))
  predicts_fail-is f w k lt = rw (value_of_bit-is None w k lt, value_of_bit-is (Some f) w k lt) refl

  pub captured-at : (f : Option Fault) (w h i : ℕ) → i < length (chain_at t h).cells → value_at (captured t f w h) i ≡ pin_value t f w (data_pin t.netlist (cell t h i))
  captured-at f w h i within = get_or-map (λ n. pin_value t f w (data_pin t.netlist n)) (chain_at t h).cells i 0 Unknown within

  -- in a pattern that captures
  pub observed_sees : (f : Fault) (w : ℕ) (p : Point) → IsPoint t p → (pattern_at t w).kind ≡ Capture → Keeps f p → observed t (Some f) w p ≡ pin_value t (Some f) w (point_pin t p)
  observed_sees f w (Output k) lt captures keeps = rw captures refl
  observed_sees f w (Cell h i) lt captures keeps = rw captures (ap (λ (row : List Tri). value_at row i) (keeps (captured t (Some f) w h)).1 ∙ captured-at (Some f) w h i lt.1)

  pub observed_good : (w : ℕ) (p : Point) → IsPoint t p → (pattern_at t w).kind ≡ Capture → observed t None w p ≡ good_value t w (observed_net t p)
  observed_good w (Output k) lt captures = rw captures (ap (good_value t w) (point_pin-net (Output k) lt))
  observed_good w (Cell h i) lt captures = rw captures (captured-at None w h i lt.1)

  -- in a pattern that only shifts
  pub shifted_same : (f : Fault) (w : ℕ) (p : Point) → (pattern_at t w).kind ≡ Shift → Keeps f p → observed t (Some f) w p ≡ observed t None w p
  shifted_same f w (Output k) shifts keeps = rw shifts refl
  shifted_same f w (Cell h i) shifts keeps = rw shifts
      (ap (λ (row : List Tri). value_at row i) ((keeps (loaded (Some f) h (slice_index_or (pattern_at t w).loads h []))).1 ∙ (keeps (slice_index_or (pattern_at t w).loads h [])).0))

  -- ---- a pin is that of a point, by their places

  abbrev out_of : PinPlace → ℕ
  out_of (place.Operand n i) = 0
  out_of (place.Output k) = k

  abbrev owner_of : PinPlace → ℕ
  owner_of (place.Operand n i) = n
  owner_of (place.Output k) = 0

  abbrev is_operand_place : PinPlace → Bool
  is_operand_place (place.Operand n i) = true
  is_operand_place (place.Output k) = false

  output_place : (k : ℕ) → k < length t.netlist.outputs → (pin_at t.netlist (output_pin t.netlist k)).place ≡ place.Output k
  output_place k lt = at_output-true k (pin_at t.netlist (output_pin t.netlist k)).place (output_pin-at t.netlist k net_sound lt)

  apart : (q p : ℕ) (x y : PinPlace) → (pin_at t.netlist q).place ≡ x → (pin_at t.netlist p).place ≡ y → (x ≡ y → ⊥) → eqb q p ≡ false
  apart q p x y at_q at_p differ = ne_eqb q p (λ same. differ (sym at_q ∙ ap (λ (m : ℕ). (pin_at t.netlist m).place) same ∙ at_p))

  pub place_is_point-is : (q : ℕ) (p : Point) → q < length t.netlist.pins → IsPoint t p → place_is_point t (pin_at t.netlist q).place p ≡ eqb (point_pin t p) q
  place_is_point-is q p lt is_point = go (pin_at t.netlist q).place p refl is_point
    where
      flop_at : (n i h j : ℕ) → (pin_at t.netlist q).place ≡ place.Operand n i → h < length t.chains → j < length (chain_at t h).cells → (x : Driver) → driver_of t.netlist n ≡ x
          → operand_is_point t x n (Cell h j) ≡ eqb (data_pin t.netlist (cell t h j)) q
      flop_at n i h j at in' within Input drives =
          sym (apart (data_pin t.netlist (cell t h j)) q (place.Operand (cell t h j) 0) (place.Operand n i) (data_place h j in' within) at
          (λ same. subst IsFlop (ap (driver_of t.netlist) (ap owner_of same) ∙ drives) (cell_is_flop_of t sound h j in' within).1))
      flop_at n i h j at in' within (Gate kind) drives =
          sym (apart (data_pin t.netlist (cell t h j)) q (place.Operand (cell t h j) 0) (place.Operand n i) (data_place h j in' within) at
          (λ same. subst IsFlop (ap (driver_of t.netlist) (ap owner_of same) ∙ drives) (cell_is_flop_of t sound h j in' within).1))
      flop_at n i h j at in' within Flop drives = elim (cases_eq (cell t h j) n) [
        | inl same ↦
            let stands = subst (IsPlacedAt t.netlist q) at (net_sound.pin_places q lt) in
            let one : (net_at t.netlist n).pin_count ≡ 1 = subst (λ (d : Driver). IsOperandCount d (net_at t.netlist n).pin_count) drives (net_sound.operand_counts n stands.0) in
            let first : data_pin t.netlist (cell t h j) ≡ q = ap (data_pin t.netlist) same ∙ omega (arith, stands.1, stands.2, one) in
            eq-eqb (cell t h j) n same ∙ sym (eq-eqb (data_pin t.netlist (cell t h j)) q first)
        | inr other ↦ ne_eqb (cell t h j) n other ∙ sym (apart (data_pin t.netlist (cell t h j)) q (place.Operand (cell t h j) 0) (place.Operand n i) (data_place h j in' within) at (λ same. other (ap owner_of same)))
      ]

      no_output : (x : Driver) (n j : ℕ) → operand_is_point t x n (Output j) ≡ false
      no_output Input n j = refl
      no_output Flop n j = refl
      no_output (Gate kind) n j = refl

      go : (x : PinPlace) (p : Point) → (pin_at t.netlist q).place ≡ x → IsPoint t p → place_is_point t x p ≡ eqb (point_pin t p) q
      go (place.Output k) (Output j) at in' = elim (cases_eq k j) [
        | inl same ↦
            let here : is_at_output j (pin_at t.netlist q).place ≡ true = ap (is_at_output j) at ∙ eq-eqb k j same in
            eq-eqb k j same ∙ sym (eq-eqb (output_pin t.netlist j) q (sym (output_pin-only t.netlist j q net_sound in' lt here)))
        | inr other ↦ ne_eqb k j other ∙ sym (apart (output_pin t.netlist j) q (place.Output j) (place.Output k) (output_place j in') at (λ same. other (sym (ap out_of same))))
      ]
      go (place.Output k) (Cell h j) at in' = sym (apart (data_pin t.netlist (cell t h j)) q (place.Operand (cell t h j) 0) (place.Output k) (data_place h j in'.0 in'.1) at (λ same. absurd (let e : true ≡ false = ap is_operand_place same in cc)))
      go (place.Operand n i) (Output j) at in' = no_output (driver_of t.netlist n) n j ∙ sym (apart (output_pin t.netlist j) q (place.Output j) (place.Operand n i) (output_place j in') at (λ same. absurd (let e : false ≡ true = ap is_operand_place same in cc)))
      go (place.Operand n i) (Cell h j) at in' = flop_at n i h j at in'.0 in'.1 (driver_of t.netlist n) refl
