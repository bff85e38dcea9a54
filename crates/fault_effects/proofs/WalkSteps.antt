-- One step of a walk along a chain: what a place that isn't noted again shows.
use Rattle.std.proofs.Common.{◌≡◌, ◌⊎◌, ℕ, ◌+◌, ◌<◌, Bool, true, false, not, eqb, ltb, ◌&&◌, ◌||◌, List, length, Option, Some, refl, sym, ap, subst, ◌∙◌, inl, inr, arith}
use Rattle.std.proofs.lemmas.Bool.{cases_Bool, cases_eq, both_ways, eq-eqb, ne_eqb, eqb-true, eqb-false, ltb-true, lt-ltb, or_parts, or_cases, and_parts, not-false}
use Rattle.scan_model.specs.declared.parts.Point.{Point}
use Rattle.scan_model.specs.declared.parts.Point.TheVariants.{Output, Cell}
use Rattle.scan_model.specs.declared.parts.PatternKind.TheVariants.{Capture, Shift}
use Rattle.scan_model.specs.declared.fault.CellKind.{CellKind}
use Rattle.scan_model.specs.declared.fault.Fault.{Fault}
use Rattle.scan_model.specs.declared.fault.Fault.TheVariants as fault
use Rattle.scan_model.specs.ScanTest.{ScanTest, IsScanTest, IsPoint, chain_at, pattern_at, points_of, point_at}
use Rattle.scan_model.specs.Loads.{cell}
use Rattle.scan_model.specs.NetValue.{net_value}
use Rattle.scan_model.specs.Response.{observed}
use Rattle.scan_model.specs.Suspect.{observed_net}
use Rattle.scan_model.specs.ChainWalk.{noted}
use Rattle.scan_model.proofs.counting.ChainSteps.{step_stays, shift_outside, shift_stays}
use Rattle.scan_model.proofs.counting.Shown.{point_at-IsPoint}
use Rattle.lane_rows.specs.Planes.{Planes, held}
use Rattle.lane_rows.specs.Lanes.{lane}
use Rattle.lane_rows.specs.GoodRows.{pattern_of, same_kind}
use Rattle.place_sets.specs.Places.{has_place, room}
use Rattle.packed_sim.specs.declared.good.PackedGood.{PackedGood}
use Rattle.packed_sim.specs.declared.scratch.Scratch.{Scratch}
use Rattle.packed_sim.specs.Propagation.{HasMoved, lane_now}
use Rattle.packed_sim.specs.PackedParts.{BelongsTo, block_at, captures, observed_at}
use Rattle.packed_sim.specs.ChainLoads.{IsLoaded}
use Rattle.packed_sim.proofs.Belonging.{observed_live, observed_in_range}
use Rattle.packed_sim.proofs.CellPlaces.{point_of_cell}
use Rattle.packed_sim.proofs.Loading.{load_len}
use Rattle.packed_sim.proofs.FaultBits.{kinds}
use Rattle.fault_effects.specs.FaultModel.{FaultModel, IsChainModel, fails_in}
use Rattle.fault_effects.specs.Walks.{IsFresh, ArePlacesFresh, AreFreshAt, IsNetDone, IsRenoted}
use Rattle.fault_effects.proofs.WalkNotes.{each_or_some}

-- what is loaded stays loaded without the marks
pub unmarked_loaded : (t : ScanTest) (g : PackedGood) (b h c : ℕ) (K : CellKind) (old new : Scratch) → new.overlay ≡ old.overlay → new.waiting ≡ old.waiting → room new.moved ≡ room old.moved
    → IsLoaded t g b h c K old → IsLoaded t g b h c K new
unmarked_loaded t g b h c K old new rows waiting rooms loaded = record {
  inside = record {
    own = ap length rows ∙ loaded.inside.own;
    moved_room = omega (arith, rooms, loaded.inside.moved_room);
    empty = λ k. ap (λ (w : List ℕ). has_place w k) waiting ∙ loaded.inside.empty k;
    room = omega (arith, ap room waiting, loaded.inside.room);
  };
  cells = λ i j lt lane_lt w_lt. ap (λ (o : List (Option Planes)). lane_now o (block_at g b).values j (cell t h i)) rows ∙ loaded.cells i j lt lane_lt w_lt;
  nets = λ live covers up n j n_lt matters lane_lt captured. ap (λ (o : List (Option Planes)). lane_now o (block_at g b).values j n) rows ∙ loaded.nets live covers up n j n_lt matters lane_lt captured;
}

module _ (t : ScanTest) (sound : IsScanTest t) (g : PackedGood) (belongs : BelongsTo t g) (b : ℕ) (block_lt : b < length g.rows) (h : ℕ) (h_lt : h < length t.chains) (K : CellKind) (c : ℕ) where
  -- the net leads to no point, or is marked
  abbrev changed : Scratch → ℕ → Bool
  changed s n = not (belongs.built.wired.live n) || has_place s.moved n

  abbrev faulty : ℕ → Fault
  faulty i = fault.Cell h i K

  live_changed : (x y : Bool) → x ≡ true → (not x || y) ≡ true → y ≡ true
  live_changed true y is e = e
  live_changed false y is e = absurd cc

  module _ (old new : Scratch) (was : IsLoaded t g b h (c + 1) K old) (is : IsLoaded t g b h c K new) (moved : HasMoved (block_at g b).values old new) where
    same_net : (j : ℕ) → j < 512 → captures t (pattern_of b j) ≡ true → (n : ℕ) → n < length t.netlist.nets → changed new n ≡ false
        → net_value t (Some (faulty c)) (pattern_of b j) n ≡ net_value t (Some (faulty (c + 1))) (pattern_of b j) n
    same_net j lt captured n n_lt same =
        let parts = or_parts (not (belongs.built.wired.live n)) (has_place new.moved n) same in
        let live = not-false (belongs.built.wired.live n) parts.0 in
        sym (is.nets belongs.built.wired.live belongs.built.wired.covers belongs.built.wired.up n j n_lt live lt captured)
        ∙ ap (λ (p : Planes). held p j) (moved.others n parts.1)
        ∙ was.nets belongs.built.wired.live belongs.built.wired.covers belongs.built.wired.up n j n_lt live lt captured

    stays_in_shift : (j : ℕ) → j < 512 → pattern_of b j < length t.patterns → (pattern_at t (pattern_of b j)).kind ≡ Shift → (p : Point) → IsPoint t p → noted t h c (changed new) p ≡ false
        → observed t (Some (faulty c)) (pattern_of b j) p ≡ observed t (Some (faulty (c + 1))) (pattern_of b j) p
    stays_in_shift j lt w_lt shifts (Output k) is_point miss =
        shift_outside t sound (pattern_of b j) h K c (Output k) shifts tt ∙ sym (shift_outside t sound (pattern_of b j) h K (c + 1) (Output k) shifts tt)
    stays_in_shift j lt w_lt shifts (Cell m i) is_point miss = elim (cases_eq m h) [
      | inr other ↦ shift_outside t sound (pattern_of b j) h K c (Cell m i) shifts other ∙ sym (shift_outside t sound (pattern_of b j) h K (c + 1) (Cell m i) shifts other)
      | inl own ↦
          let w = pattern_of b j in
          let within : i < length (chain_at t h).cells = omega (arith, ap (λ (x : ℕ). length (chain_at t x).cells) own, is_point.1) in
          let off : (((eqb i c) || (eqb i (c + 1))) || (changed new (observed_net t (Cell h i)) || (ltb (i + 1) (length (chain_at t h).cells) && changed new (observed_net t (Cell h (i + 1)))))) ≡ false = rw (eq-eqb m h own) at miss in
          let halves = or_parts (eqb i c || eqb i (c + 1)) (changed new (observed_net t (Cell h i)) || (ltb (i + 1) (length (chain_at t h).cells) && changed new (observed_net t (Cell h (i + 1))))) off in
          let places = or_parts (eqb i c) (eqb i (c + 1)) halves.0 in
          ap (λ (x : ℕ). observed t (Some (faulty c)) w (Cell x i)) own
          ∙ shift_stays t sound w h K c i (omega (arith, load_len t sound g belongs b block_lt h h_lt w w_lt)) shifts (eqb-false i c places.0) (eqb-false i (c + 1) places.1)
          ∙ ap (λ (x : ℕ). observed t (Some (faulty (c + 1))) w (Cell x i)) (sym own)
    ]

    stays : (k j : ℕ) → k < length (points_of t) → j < 512 → pattern_of b j < length t.patterns → noted t h c (changed new) (point_at t k) ≡ false
        → observed t (Some (faulty c)) (pattern_of b j) (point_at t k) ≡ observed t (Some (faulty (c + 1))) (pattern_of b j) (point_at t k)
    stays k j in_points lt w_lt miss =
        let w = pattern_of b j in
        let p = point_at t k in
        let is_point = point_at-IsPoint t sound k in_points in
        elim (kinds (pattern_at t w).kind) [
          | inl capture ↦
              let captured : captures t w ≡ true = ap (λ (x : Bool). x && same_kind Capture (pattern_at t w).kind) (lt-ltb w (length t.patterns) w_lt) ∙ ap (same_kind Capture) capture in
              step_stays t sound w h K c (changed new) p is_point capture (same_net j lt captured) miss
          | inr shift ↦ stays_in_shift j lt w_lt shift p is_point miss
        ]

    -- a step that notes again the places that see points of what moved, points below those, and the two positions, leaves all notes fresh
    module _ (m : FaultModel) (chains : IsChainModel t m) (before after : List (List ℕ)) (were : (q : ℕ) → q < m.places → IsFresh m b (faulty (c + 1)) before q) (renoted : IsRenoted m b (faulty c) before after)
        (done : (n : ℕ) → n < length t.netlist.nets → has_place new.moved n ≡ true → IsNetDone t m b (faulty c) h after n)
        (here : AreFreshAt t m b (faulty c) after (observed_net t (Cell h c)))
        (above : AreFreshAt t m b (faulty c) after (observed_net t (Cell h (c + 1)))) where
      done_at : (k : ℕ) → k < length (points_of t) → changed new (observed_at t k) ≡ true → IsNetDone t m b (faulty c) h after (observed_at t k)
      done_at k lt is_changed = done (observed_at t k) (observed_in_range t sound g belongs.built k lt)
          (live_changed (belongs.built.wired.live (observed_at t k)) (has_place new.moved (observed_at t k)) (observed_live t sound g belongs.built k lt) is_changed)

      by_net : (k : ℕ) → k < length (points_of t) → changed new (observed_at t k) ≡ true → ArePlacesFresh m b (faulty c) after k
      by_net k lt is_changed = (done_at k lt is_changed).own k lt refl

      -- position i of the chain, by what is true of it
      own_noted : (k i : ℕ) → k < length (points_of t) → i < length (chain_at t h).cells → point_at t k ≡ Cell h i
          → (((eqb i c) || (eqb i (c + 1))) || (changed new (observed_net t (Cell h i)) || (ltb (i + 1) (length (chain_at t h).cells) && changed new (observed_net t (Cell h (i + 1)))))) ≡ true
          → ArePlacesFresh m b (faulty c) after k
      own_noted k i lt within at is_noted =
          let near = eqb i c || eqb i (c + 1) in
          let own = changed new (observed_net t (Cell h i)) in
          let upper = ltb (i + 1) (length (chain_at t h).cells) && changed new (observed_net t (Cell h (i + 1))) in
          let net : (m : ℕ) → i ≡ m → observed_at t k ≡ observed_net t (Cell h m) = λ m e. ap (observed_net t) at ∙ ap (λ (x : ℕ). observed_net t (Cell h x)) e in
          elim (or_cases near (own || upper) is_noted) [
            | inl is_near ↦ elim (or_cases (eqb i c) (eqb i (c + 1)) is_near) [
              | inl e ↦ here k lt (net c (eqb-true i c e))
              | inr e ↦ above k lt (net (c + 1) (eqb-true i (c + 1) e))
            ]
            | inr by_nets ↦ elim (or_cases own upper by_nets) [
              | inl e ↦ by_net k lt (ap (λ (p : Point). changed new (observed_net t p)) at ∙ e)
              | inr e ↦
                  let parts = and_parts (ltb (i + 1) (length (chain_at t h).cells)) (changed new (observed_net t (Cell h (i + 1)))) e in
                  let more : i + 1 < length (chain_at t h).cells = ltb-true (i + 1) (length (chain_at t h).cells) parts.0 in
                  let next = point_of_cell t h (i + 1) h_lt more in
                  let is_changed : changed new (observed_at t next.0) ≡ true = ap (λ (p : Point). changed new (observed_net t p)) next.2 ∙ parts.1 in
                  (done_at next.0 next.1 is_changed).below next.0 i next.1 refl next.2 k lt (net i refl)
            ]
          ]

      noted_fresh : (k : ℕ) (p : Point) → k < length (points_of t) → point_at t k ≡ p → noted t h c (changed new) p ≡ true → ArePlacesFresh m b (faulty c) after k
      noted_fresh k (Output o) lt at is_noted = by_net k lt (ap (λ (p : Point). changed new (observed_net t p)) at ∙ is_noted)
      noted_fresh k (Cell m i) lt at is_noted = elim (cases_eq m h) [
        | inr other ↦ by_net k lt (ap (λ (p : Point). changed new (observed_net t p)) at ∙ (rw (ne_eqb m h other) at is_noted))
        | inl own ↦
            let is_own : point_at t k ≡ Cell h i = at ∙ ap (λ (x : ℕ). Cell x i) own in
            let is_point : IsPoint t (Cell h i) = subst (IsPoint t) is_own (point_at-IsPoint t sound k lt) in
            own_noted k i lt is_point.1 is_own (rw (eq-eqb m h own) at is_noted)
      ]

      -- point k shows what it showed, if place q sees it
      abbrev IsStill : ℕ → ℕ → Type 0
      IsStill q k = m.sees q k ≡ true → noted t h c (changed new) (point_at t k) ≡ false

      still_lane : (q j : ℕ) → q < m.places → j < 512 → ((k : ℕ) → k < length (points_of t) → IsStill q k) → fails_in m b (faulty c) q j ≡ fails_in m b (faulty (c + 1)) q j
      still_lane q j q_lt lt still =
          let w = pattern_of b j in
          elim (cases_Bool (m.exists w)) [
            | inl there ↦ ap (λ (x : Bool). m.exists w && x) (chains.same (faulty c) (faulty (c + 1)) w q q_lt (λ k k_lt sees. stays k j k_lt lt (chains.patterns w there) (still k k_lt sees)))
            | inr gone ↦ ap (λ (x : Bool). x && m.fails (faulty c) w q) gone ∙ sym (ap (λ (x : Bool). x && m.fails (faulty (c + 1)) w q) gone)
          ]

      at_point : (q k : ℕ) → q < m.places → k < length (points_of t) → IsStill q k ⊎ IsFresh m b (faulty c) after q
      at_point q k q_lt lt = elim (cases_Bool (noted t h c (changed new) (point_at t k))) [
        | inr miss ↦ inl (λ sees. miss)
        | inl is_noted ↦ elim (cases_Bool (m.sees q k)) [
          | inl sees ↦ inr (noted_fresh k (point_at t k) lt refl is_noted q q_lt sees)
          | inr blind ↦ inl (λ sees. absurd (both_ways (m.sees q k) blind sees))
        ]
      ]

      pub all_fresh : (q : ℕ) → q < m.places → IsFresh m b (faulty c) after q
      all_fresh q lt = elim (each_or_some (IsStill q) (λ k. IsFresh m b (faulty c) after q) (length (points_of t)) (λ k k_lt. at_point q k lt k_lt)) [
        | inr found ↦ found.2
        | inl still ↦ elim (renoted q) [
          | inl fresh ↦ fresh
          | inr same ↦ λ j lane_lt. ap (λ (row : List ℕ). lane row j) same ∙ were q lt j lane_lt ∙ sym (still_lane q j lt lane_lt still)
        ]
      ]
