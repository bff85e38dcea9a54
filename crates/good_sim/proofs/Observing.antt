-- What the points show, where the values of all nets and what is forced are known.
use Rattle.std.proofs.Common.{◌≡◌, ℕ, ◌<◌, true, false, cond, eqb, List, [], ◌∷◌, length, map, get_or, replicate, Option, Some, None, refl, sym, ap, subst, ◌∙◌, arith}
use Rattle.std.specs.Prelude.{All, slice_index, slice_index_or}
use Rattle.std.specs.List.{AllByRecursion}
use Rattle.std.proofs.lemmas.Bool.{eq-eqb, ne_eqb, both_ways}
use Rattle.std.proofs.lemmas.List.{get_or_default, get_or-map, length-map}
use Rattle.std.proofs.lemmas.List.FromFn.{get_or-map-range_with_len, length-map-range_with_len}
use Rattle.std.proofs.lemmas.List.Elements.{recursion_from_All}
use mathlib.Core.Path.{fun_ext}
use Rattle.scan_model.specs.declared.values.Tri.{Tri}
use Rattle.scan_model.specs.declared.values.Tri.TheVariants.{Unknown}
use Rattle.scan_model.specs.declared.parts.Chain.{Chain}
use Rattle.scan_model.specs.declared.parts.Point.{Point}
use Rattle.scan_model.specs.declared.parts.Point.TheVariants.{Output, Cell}
use Rattle.scan_model.specs.declared.parts.PatternKind.TheVariants.{Capture, Shift}
use Rattle.scan_model.specs.declared.fault.Fault.{Fault}
use Rattle.scan_model.specs.declared.fault.Fault.TheVariants as fault
use Rattle.scan_model.specs.Netlist.{Netlist, IsNetlist, driver_of, pin_at}
use Rattle.scan_model.specs.ChainShift.{value_at}
use Rattle.scan_model.specs.ScanTest.{ScanTest, IsScanTest, IsFlop, IsPoint, chain_at, no_chain, no_pattern, pattern_at, points_of}
use Rattle.scan_model.specs.Faults.{unloaded}
use Rattle.scan_model.specs.NetValue.{Forced, seen, values_of, source_of, loads_of, forced_by, net_value, pin_value}
use Rattle.scan_model.specs.Response.{is_at_output, output_pin, data_pin, response, observed, captured, held, output_value}
use Rattle.scan_model.proofs.Outputs.{output_pin-in_range, output_pin-only, output_pin-at, output_pin-net, output_in_range}
use Rattle.scan_model.proofs.Points.{points_are_points}
use Rattle.good_sim.specs.Valuation.{AreValues}
use Rattle.good_sim.specs.declared.chains.Direction.TheVariants.{In, Out}
use Rattle.scan_model.specs.Loads.{FitChains}
use Rattle.scan_model.proofs.Cells.{data_pin-in_range, cells_are_flops}
use Rattle.scan_model.proofs.Loads.{same_len, as_many}
use Rattle.good_sim.specs.Shifts.{shifted_rows}
use Rattle.good_sim.specs.PointValues.{forced_over, outputs_over, captured_over, captured_rows_over, shown_at, HasPoint}
use Rattle.good_sim.proofs.Shifting.{shifted_rows-at, shifted_rows-fit, length-shifted_rows}
use Rattle.good_sim.proofs.Unknowns.{unknowns}

-- a forced pin is that of the output, or isn't
pub forced_at_output : (c : Netlist) (k q : ℕ) (v : Tri) → IsNetlist c → k < length c.outputs → q < length c.pins → is_at_output k (pin_at c q).place ≡ true → Some v ≡ cond (eqb (output_pin c k) q) (Some v) None
forced_at_output c k q v sound lt in_pins is = rw (eq-eqb (output_pin c k) q (sym (output_pin-only c k q sound lt in_pins is))) refl

pub not_at_output : (c : Netlist) (k q : ℕ) (v : Tri) → IsNetlist c → k < length c.outputs → is_at_output k (pin_at c q).place ≡ false → None ≡ cond (eqb (output_pin c k) q) (Some v) None
not_at_output c k q v sound lt is_not = rw (ne_eqb (output_pin c k) q (λ same. both_ways (is_at_output k (pin_at c q).place) is_not (subst (λ p. is_at_output k (pin_at c p).place ≡ true) same (output_pin-at c k sound lt)))) refl

-- where nothing is forced on the pin of an output, the output shows its net
pub shown_by_net : (c : Netlist) (forced : Forced) (values : List Tri) (k : ℕ) (d : Tri) → IsNetlist c → k < length c.outputs → length values ≡ length c.nets → None ≡ forced.pin (output_pin c k)
    → get_or values (slice_index c.outputs k) d ≡ seen c forced (value_at values) (output_pin c k)
shown_by_net c forced values k d sound lt fits free =
    rw (← free, output_pin-net c k sound lt) (get_or_default values (slice_index c.outputs k) d Unknown (omega (arith, fits, output_in_range c k sound lt)))

seen_same : (c : Netlist) (e f : Forced) (u v : ℕ → Tri) (p : ℕ) → IsNetlist c → e ≡ f → ((n : ℕ) → n < length c.nets → u n ≡ v n) → p < length c.pins → seen c e u p ≡ seen c f v p
seen_same c e f u v p sound same agree lt = rw (same, agree (pin_at c p).net (sound.pin_nets p lt)) refl

map_agree : {A : Type 0} (f g : A → Tri) (P : A → Type 0) (xs : List A) → ((x : A) → P x → f x ≡ g x) → AllByRecursion P xs → map f xs ≡ map g xs
map_agree f g P [] agree all = refl
map_agree f g P (x ∷ xs) agree all = rw (agree x all.0, map_agree f g P xs agree all.1) refl

-- the values of the outputs and the unloaded rows show the response
pub response_is : (t : ScanTest) (f : Option Fault) (w : ℕ) (outputs : List Tri) (rows : List (List Tri))
    → ((k : ℕ) → k < length t.netlist.outputs → value_at outputs k ≡ output_value t f (pattern_at t w).kind w k)
    → ((h : ℕ) → h < length t.chains → slice_index_or rows h [] ≡ unloaded f h (held t f (pattern_at t w).kind w h))
    → map (shown_at outputs rows) (points_of t) ≡ response t f w
response_is t f w outputs rows output row = map_agree (shown_at outputs rows) (observed t f w) (IsPoint t) (points_of t) at (recursion_from_All (IsPoint t) (points_of t) (points_are_points t))
  where
    at : (p : Point) → IsPoint t p → shown_at outputs rows p ≡ observed t f w p
    at (Output k) lt = output k lt
    at (Cell h i) lt = ap (λ (r : List Tri). value_at r i) (row h lt.0)

-- each point has its value there
pub have_points : (t : ScanTest) (outputs : List Tri) (rows : List (List Tri)) → length outputs ≡ length t.netlist.outputs → FitChains t.chains rows → All (HasPoint outputs rows) (points_of t)
have_points t outputs rows len fit = λ k d lt. at (get_or (points_of t) k d) (points_are_points t k d lt)
  where
    at : (p : Point) → IsPoint t p → HasPoint outputs rows p
    at (Output k) lt = omega arith
    at (Cell h i) lt = (omega (arith, as_many t.chains rows fit), omega (arith, lt.1, same_len t.chains rows h no_chain [] fit lt.0))

-- ---- a pattern that captures

-- what is forced, over the source under the fault
pub forced_is : (t : ScanTest) (f : Option Fault) (w : ℕ) → forced_over t.netlist (source_of t f w) f ≡ forced_by t f w
forced_is t None w = refl
forced_is t (Some (fault.Stem n v)) w = refl
forced_is t (Some (fault.Branch p v)) w = refl
forced_is t (Some (fault.Bridge a b kind)) w = refl
forced_is t (Some (fault.Cell h i kind)) w = refl

-- what is forced in the logic, and the values of all nets
pub record AreCaptured (t : ScanTest) (f : Option Fault) (w : ℕ) (e : Forced) (values : List Tri) : Type 0 where
  pub forced : e ≡ forced_by t f w
  pub value : (n : ℕ) → n < length t.netlist.nets → value_at values n ≡ net_value t f w n

pub are_captured : (t : ScanTest) (f : Option Fault) (w : ℕ) (source : List Tri) (e : Forced) (values : List Tri)
    → ((n : ℕ) → value_at source n ≡ source_of t f w n) → e ≡ forced_over t.netlist (value_at source) f → AreValues t.netlist (value_at source) e values
    → AreCaptured t f w e values
are_captured t f w source e values source_is e_is are =
    let same : value_at source ≡ source_of t f w = fun_ext source_is in
    let forced : e ≡ forced_by t f w = e_is ∙ ap (λ (g : ℕ → Tri). forced_over t.netlist g f) same ∙ forced_is t f w in
    record {
      forced = forced;
      value = λ n lt. are.value n lt ∙ ap (λ (g : ℕ → Tri). values_of t.netlist g e n) same ∙ ap (λ (x : Forced). values_of t.netlist (source_of t f w) x n) forced;
    }

pub outputs_are : (t : ScanTest) (f : Option Fault) (w : ℕ) (e : Forced) (values : List Tri) → IsScanTest t → (pattern_at t w).kind ≡ Capture → AreCaptured t f w e values
    → (k : ℕ) → k < length t.netlist.outputs → value_at (outputs_over t.netlist e (value_at values)) k ≡ output_value t f (pattern_at t w).kind w k
outputs_are t f w e values sound captures are k lt = rw captures
    (get_or-map-range_with_len (λ k. seen t.netlist e (value_at values) (output_pin t.netlist k)) 0 (length t.netlist.outputs) k k Unknown lt (omega arith)
    ∙ seen_same t.netlist e (forced_by t f w) (value_at values) (net_value t f w) (output_pin t.netlist k) sound.circuit.netlist are.forced are.value (output_pin-in_range t.netlist k sound.circuit.netlist lt))

captured_is : (t : ScanTest) (f : Option Fault) (w : ℕ) (e : Forced) (values : List Tri) → IsScanTest t → AreCaptured t f w e values
    → (h : ℕ) → h < length t.chains → captured_over t.netlist e (value_at values) (chain_at t h).cells ≡ captured t f w h
captured_is t f w e values sound are h lt =
    map_agree (λ n. seen t.netlist e (value_at values) (data_pin t.netlist n)) (λ n. pin_value t f w (data_pin t.netlist n)) (λ n. (n < length t.netlist.nets) × IsFlop (driver_of t.netlist n)) (chain_at t h).cells
    (λ n is. seen_same t.netlist e (forced_by t f w) (value_at values) (net_value t f w) (data_pin t.netlist n) sound.circuit.netlist are.forced are.value (data_pin-in_range t.netlist n sound.circuit.netlist is.0 is.1))
    (recursion_from_All (λ n. (n < length t.netlist.nets) × IsFlop (driver_of t.netlist n)) (chain_at t h).cells (cells_are_flops t h (chain_at t h) sound lt (get_or_default t.chains h no_chain (chain_at t h) lt)))

pub captured_rows_are : (t : ScanTest) (f : Option Fault) (w : ℕ) (e : Forced) (values : List Tri) → IsScanTest t → (pattern_at t w).kind ≡ Capture → AreCaptured t f w e values
    → (h : ℕ) → h < length t.chains → slice_index_or (shifted_rows Out f (captured_rows_over t.netlist e (value_at values) t.chains)) h [] ≡ unloaded f h (held t f (pattern_at t w).kind w h)
captured_rows_are t f w e values sound captures are h lt = rw captures
    (shifted_rows-at Out f (captured_rows_over t.netlist e (value_at values) t.chains) h (omega (arith, length-map t.chains (λ x. captured_over t.netlist e (value_at values) x.cells)))
    ∙ ap (unloaded f h) (get_or-map (λ x. captured_over t.netlist e (value_at values) x.cells) t.chains h no_chain [] lt ∙ captured_is t f w e values sound are h lt))

pub captured_fit : (c : Netlist) (e : Forced) (value : ℕ → Tri) (chains : List Chain) → FitChains chains (captured_rows_over c e value chains)
captured_fit c e value [] = refl
captured_fit c e value (x ∷ xs) = rw (length-map x.cells (λ n. seen c e value (data_pin c n)), captured_fit c e value xs) refl

-- ---- a pattern that only shifts

pub unknown_outputs : (t : ScanTest) (f : Option Fault) (w n : ℕ) → (pattern_at t w).kind ≡ Shift → (k : ℕ) → k < length t.netlist.outputs → value_at (replicate n Unknown) k ≡ output_value t f (pattern_at t w).kind w k
unknown_outputs t f w n shifts k lt = rw shifts (unknowns n k)

pub loaded_rows_are : (t : ScanTest) (f : Option Fault) (w : ℕ) → length (pattern_at t w).loads ≡ length t.chains → (pattern_at t w).kind ≡ Shift
    → (h : ℕ) → h < length t.chains → slice_index_or (shifted_rows Out f (loads_of t f w)) h [] ≡ unloaded f h (held t f (pattern_at t w).kind w h)
loaded_rows_are t f w len shifts h lt = rw shifts
    (shifted_rows-at Out f (loads_of t f w) h (omega (arith, length-shifted_rows In f (pattern_at t w).loads))
    ∙ ap (unloaded f h) (shifted_rows-at In f (pattern_at t w).loads h (omega arith)))

-- ---- the whole response

pub loads_fit : (t : ScanTest) (f : Option Fault) (w : ℕ) → IsScanTest t → w < length t.patterns → FitChains t.chains (loads_of t f w)
loads_fit t f w sound lt = shifted_rows-fit In f t.chains (pattern_at t w).loads (sound.patterns.each w no_pattern lt).loads

pub rows_fit : (t : ScanTest) (f : Option Fault) (held rows : List (List Tri)) → rows ≡ shifted_rows Out f held → FitChains t.chains held → FitChains t.chains rows
rows_fit t f held rows is fit = rw is (shifted_rows-fit Out f t.chains held fit)

pub length-outputs : (c : Netlist) (e : Forced) (value : ℕ → Tri) (outputs : List Tri) → outputs ≡ outputs_over c e value → length outputs ≡ length c.outputs
length-outputs c e value outputs is = ap length is ∙ length-map-range_with_len (λ k. seen c e value (output_pin c k)) 0 (length c.outputs)

pub capture_is : (t : ScanTest) (f : Option Fault) (w : ℕ) (e : Forced) (source values outputs : List Tri) (held rows : List (List Tri)) → IsScanTest t → (pattern_at t w).kind ≡ Capture
    → ((n : ℕ) → value_at source n ≡ source_of t f w n) → e ≡ forced_over t.netlist (value_at source) f → AreValues t.netlist (value_at source) e values
    → outputs ≡ outputs_over t.netlist e (value_at values) → held ≡ captured_rows_over t.netlist e (value_at values) t.chains → rows ≡ shifted_rows Out f held
    → map (shown_at outputs rows) (points_of t) ≡ response t f w
capture_is t f w e source values outputs held rows sound captures source_is e_is values_are outputs_is held_is rows_is =
    let are = are_captured t f w source e values source_is e_is values_are in
    response_is t f w outputs rows (rw outputs_is (outputs_are t f w e values sound captures are)) (rw (rows_is, held_is) (captured_rows_are t f w e values sound captures are))

pub shift_is : (t : ScanTest) (f : Option Fault) (w n : ℕ) (outputs : List Tri) (rows : List (List Tri)) → IsScanTest t → w < length t.patterns → (pattern_at t w).kind ≡ Shift
    → outputs ≡ replicate n Unknown → rows ≡ shifted_rows Out f (loads_of t f w) → map (shown_at outputs rows) (points_of t) ≡ response t f w
shift_is t f w n outputs rows sound lt shifts outputs_is rows_is =
    let len = as_many t.chains (pattern_at t w).loads (sound.patterns.each w no_pattern lt).loads in
    response_is t f w outputs rows (rw outputs_is (unknown_outputs t f w n shifts)) (rw rows_is (loaded_rows_are t f w len shifts))
