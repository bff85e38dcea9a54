-- What is known of a scratch and of rows that belong to a test.
use Rattle.std.proofs.Common.{◌≡◌, ℕ, ◌<◌, ◌≤◌, Bool, true, false, cond, ◌&&◌, List, length, get_or, Option, None, Some, unwrap_or, ◌≢◌, refl, sym, ap, ◌∙◌, arith}
use Rattle.std.specs.Prelude.{count_by, is_some}
use Rattle.std.specs.List.{list_any}
use Rattle.std.proofs.lemmas.Bool.{both_ways, and_parts}
use Rattle.std.proofs.lemmas.List.{length-map, get_or-map}
use Rattle.scan_model.specs.declared.values.Tri.{Tri}
use Rattle.scan_model.specs.declared.parts.Point.TheVariants.{Output}
use Rattle.scan_model.specs.Values.{are_opposite, tri_not}
use Rattle.scan_model.specs.Cone.{in_fan_in}
use Rattle.scan_model.specs.ScanTest.{ScanTest, IsScanTest, points_of, point_at}
use Rattle.scan_model.specs.NetValue.{Forced, values_of, nothing_forced, good_value}
use Rattle.scan_model.specs.Suspect.{observed_net}
use Rattle.scan_model.specs.Force.{force}
use Rattle.scan_model.specs.Masks.{flip_shows_from}
use Rattle.scan_model.proofs.counting.Shown.{not_opposite_itself, observed_net-in_range, point_at-IsPoint}
use Rattle.scan_model.proofs.counting.Flips.{force_shows_from}
use Rattle.lane_rows.specs.Planes.{Planes, held}
use Rattle.lane_rows.specs.GoodRows.{pattern_of}
use Rattle.lane_rows.specs.Stimuli.{Stimuli, AreRowsOf, stimuli_of}
use Rattle.place_sets.specs.Places.{has_place, room}
use Rattle.lane_rows.proofs.RowsOfTest.{good_rows-rows}
use Rattle.lane_rows.proofs.Once.{counted_once, order_short}
use Rattle.packed_sim.specs.declared.good.PackedGood.{PackedGood}
use Rattle.packed_sim.specs.declared.scratch.Scratch.{Scratch}
use Rattle.packed_sim.specs.Rows.{no_row}
use Rattle.packed_sim.specs.Propagation.{FitsScratch, IsForced, AreGood, is_downstream}
use Rattle.packed_sim.specs.PackedParts.{IsBuiltFor, BelongsTo, IsScratchIn, block_at, good_at, now_at, observed_at, captures, has_own_row, gates_downstream}

module _ (t : ScanTest) (sound : IsScanTest t) (g : PackedGood) (built : IsBuiltFor t g) where
  pub fits_of : (b : ℕ) (s : Scratch) → b < length g.rows → IsScratchIn g s → FitsScratch t.netlist g.wiring.order.items (block_at g b).values s
  fits_of b s lt inside = record {
    own = inside.own ∙ built.net_count;
    good_rows = built.rows b lt;
    moved_room = omega (arith, inside.moved_room, built.net_count);
    room = omega (arith, order_short t.netlist g.wiring.order.items built.wired.wired.ordered, inside.room, built.net_count);
    places = λ k has. absurd (both_ways (has_place s.waiting k) (inside.empty k) has);
  }

  pub inside_of : (b : ℕ) (old s : Scratch) → IsScratchIn g old → FitsScratch t.netlist g.wiring.order.items (block_at g b).values s → ((k : ℕ) → has_place s.waiting k ≡ false)
      → room s.waiting ≡ room old.waiting → IsScratchIn g s
  inside_of b old s inside fits empty rooms = record {
    own = fits.own ∙ sym built.net_count;
    moved_room = omega (arith, fits.moved_room, built.net_count);
    empty = empty;
    room = omega (arith, inside.room, rooms);
  }

  pub observed_is : (k : ℕ) → k < length (points_of t) → get_or g.observed.items k 0 ≡ observed_at t k
  observed_is k lt = ap (λ (ns : List ℕ). get_or ns k 0) built.observed ∙ get_or-map (observed_net t) (points_of t) k (Output 0) 0 lt

  pub observed_len : length g.observed.items ≡ length (points_of t)
  observed_len = ap length built.observed ∙ length-map (points_of t) (observed_net t)

  pub observed_in_range : (k : ℕ) → k < length (points_of t) → observed_at t k < length t.netlist.nets
  observed_in_range k lt = observed_net-in_range t sound (point_at t k) (point_at-IsPoint t sound k lt)

  pub observed_live : (k : ℕ) → k < length (points_of t) → built.wired.live (observed_at t k) ≡ true
  observed_live k lt = ap built.wired.live (sym (observed_is k lt)) ∙ built.wired.own k (omega (arith, observed_len, lt))

  pub few_steps : (nets : List ℕ) → count_by (is_downstream t.netlist nets) g.wiring.order.items ≤ length (gates_downstream t nets)
  few_steps nets = counted_once t.netlist g.wiring.order.items built.wired.wired.ordered (is_downstream t.netlist nets) (λ n. list_any (λ m. in_fan_in t.netlist m n) nets)
      (λ n gate behind. (and_parts _ (list_any (λ m. in_fan_in t.netlist m n) nets) behind).1)

  module _ (σ : Stimuli) (rows : AreRowsOf t.netlist σ g.rows) where
    pub are_good : (b j : ℕ) → b < length g.rows → j < 512 → σ.captures (pattern_of b j) ≡ true → AreGood t.netlist (block_at g b).values (σ.source (pattern_of b j)) j
    are_good b j lt lane_lt is n in_range = rows.value b j n lt lane_lt in_range is

    pub forced_at : (b : ℕ) (s : Scratch) (forced : ℕ → Forced) → b < length g.rows → IsForced t.netlist g.wiring.order.items g.wiring.sinks (block_at g b).values forced s
        → (k j : ℕ) → k < length (points_of t) → j < 512 → σ.captures (pattern_of b j) ≡ true → now_at g s b j (observed_at t k) ≡ values_of t.netlist (σ.source (pattern_of b j)) (forced j) (observed_at t k)
    forced_at b s forced lt is k j in_points lane_lt captured =
        is built.wired.live (σ.source (pattern_of b j)) j lane_lt built.wired.covers built.wired.up (are_good b j lt lane_lt captured) (observed_at t k) (observed_in_range k in_points) (observed_live k in_points)

    -- one flip, in the lanes in which the row is flipped
    pub flip_is : (b j net k : ℕ) (row : Planes) (flips : Bool) (x y : Tri) → b < length g.rows → j < 512 → net < length t.netlist.nets → k < length (points_of t) → σ.captures (pattern_of b j) ≡ true
        → held row j ≡ cond flips (tri_not (good_at g b j net)) (good_at g b j net) → x ≡ good_at g b j (observed_at t k)
        → y ≡ values_of t.netlist (σ.source (pattern_of b j)) (force net (held row j)) (observed_at t k)
        → are_opposite x y ≡ (flips && flip_shows_from t.netlist (σ.source (pattern_of b j)) net (observed_at t k))
    flip_is b j net k row true x y lt lane_lt net_lt in_points captured is x_is y_is =
        let s = σ.source (pattern_of b j) in
        let o = observed_at t k in
        let good = rows.value b j net lt lane_lt net_lt captured in
        ap (λ (v : Tri). are_opposite v y) (x_is ∙ rows.value b j o lt lane_lt (observed_in_range k in_points) captured)
        ∙ ap (are_opposite (values_of t.netlist s nothing_forced o)) (y_is ∙ ap (λ (v : Tri). values_of t.netlist s (force net v) o) (is ∙ ap tri_not good))
    flip_is b j net k row false x y lt lane_lt net_lt in_points captured is x_is y_is =
        let s = σ.source (pattern_of b j) in
        let o = observed_at t k in
        let order = g.wiring.order.items in
        let value = values_of t.netlist s nothing_forced in
        let good = rows.value b j net lt lane_lt net_lt captured in
        ap (λ (v : Tri). are_opposite v y) (x_is ∙ rows.value b j o lt lane_lt (observed_in_range k in_points) captured)
        ∙ ap (are_opposite (value o)) (y_is ∙ ap (λ (v : Tri). values_of t.netlist s (force net v) o) (is ∙ good))
        ∙ force_shows_from t.netlist order sound.circuit.netlist built.wired.wired.ordered s net (value net) o (observed_in_range k in_points)
        ∙ ap (λ (b' : Bool). b' && flip_shows_from t.netlist s net o) (not_opposite_itself (value net))

-- the rows of a test are those of its stimuli
pub own_rows : (t : ScanTest) (g : PackedGood) → BelongsTo t g → AreRowsOf t.netlist (stimuli_of t) g.rows
own_rows t g belongs = good_rows-rows t g.rows belongs.rows

-- in a pattern that captures a lane of the rows is fault-free
pub good_is : (t : ScanTest) (g : PackedGood) → BelongsTo t g → (b j n : ℕ) → b < length g.rows → j < 512 → n < length t.netlist.nets → captures t (pattern_of b j) ≡ true → good_at g b j n ≡ good_value t (pattern_of b j) n
good_is t g belongs = (own_rows t g belongs).value

pub own_row : (o : Option Planes) → o ≢ None → is_some o ≡ true
own_row None has = absurd (has refl)
own_row (Some p) has = refl

pub row_of_own : (o : Option Planes) → is_some o ≡ true → o ≢ None
row_of_own None owned = absurd cc
row_of_own (Some p) owned = λ e. cc

-- where a net has no row of its own its value is the fault-free one
pub own_no_row : (g : PackedGood) (s : Scratch) (b j n : ℕ) → has_own_row s n ≡ false → now_at g s b j n ≡ good_at g b j n
own_no_row g s b j n none = ap (λ (o : Option Planes). held (unwrap_or o (get_or (block_at g b).values n no_row)) j) (is_none (get_or s.overlay n None) none)
  where
    is_none : (o : Option Planes) → is_some o ≡ false → o ≡ None
    is_none None e = refl
    is_none (Some p) e = absurd cc
