-- The first notes of a walk along a chain: what a place that isn't noted shows.
use Rattle.std.proofs.Common.{◌≡◌, ◌⊎◌, ℕ, ◌<◌, Bool, true, false, ◌&&◌, List, length, Some, None, refl, sym, ap, subst, ◌∙◌, inl, inr}
use Rattle.std.proofs.lemmas.Bool.{cases_Bool, cases_eq, both_ways, lt-ltb}
use Rattle.scan_model.specs.declared.parts.Point.{Point}
use Rattle.scan_model.specs.declared.parts.Point.TheVariants.{Output, Cell}
use Rattle.scan_model.specs.declared.parts.PatternKind.TheVariants.{Capture}
use Rattle.scan_model.specs.declared.fault.CellKind.{CellKind}
use Rattle.scan_model.specs.declared.fault.Fault.{Fault}
use Rattle.scan_model.specs.declared.fault.Fault.TheVariants as fault
use Rattle.scan_model.specs.ScanTest.{ScanTest, IsScanTest, IsPoint, chain_at, pattern_at, points_of, point_at}
use Rattle.scan_model.specs.Response.{observed}
use Rattle.scan_model.specs.Suspect.{observed_net}
use Rattle.scan_model.proofs.counting.ChainSteps.{IsOutside, outside_shows_net, shift_outside}
use Rattle.scan_model.proofs.counting.Shown.{point_at-IsPoint, observed_good}
use Rattle.lane_rows.specs.GoodRows.{pattern_of, same_kind}
use Rattle.packed_sim.specs.declared.good.PackedGood.{PackedGood}
use Rattle.packed_sim.specs.declared.scratch.Scratch.{Scratch}
use Rattle.packed_sim.specs.PackedParts.{BelongsTo, captures, has_own_row, observed_at}
use Rattle.packed_sim.specs.ChainLoads.{IsLoaded}
use Rattle.packed_sim.proofs.Belonging.{good_is, observed_in_range, observed_live, own_no_row}
use Rattle.packed_sim.proofs.FaultBits.{kinds}
use Rattle.fault_effects.specs.FaultModel.{FaultModel, IsChainModel, fails_in}
use Rattle.fault_effects.specs.Tables.{table_of}
use Rattle.fault_effects.specs.Walks.{IsFresh, AreFreshAt, IsRenoted}
use Rattle.fault_effects.proofs.WalkNotes.{each_or_some, fresh_kept}

-- a point stands outside the chain, or at a position of it
stands : (h : ℕ) (p : Point) → IsOutside h p ⊎ ((i : ℕ) × (p ≡ Cell h i))
stands h (Output k) = inl tt
stands h (Cell m i) = elim (cases_eq m h) [
  | inl own ↦ inr (i, ap (λ (x : ℕ). Cell x i) own)
  | inr other ↦ inl other
]

module _ (t : ScanTest) (sound : IsScanTest t) (g : PackedGood) (belongs : BelongsTo t g) (b : ℕ) (block_lt : b < length g.rows) (h c : ℕ) (K : CellKind) (s : Scratch) (loaded : IsLoaded t g b h c K s) where
  abbrev f : Fault
  f = fault.Cell h c K

  -- a point outside the chain whose net has no row of its own shows its fault-free value
  quiet_value : (k j : ℕ) → k < length (points_of t) → j < 512 → pattern_of b j < length t.patterns → IsOutside h (point_at t k) → has_own_row s (observed_at t k) ≡ false
      → observed t (Some f) (pattern_of b j) (point_at t k) ≡ observed t None (pattern_of b j) (point_at t k)
  quiet_value k j in_points lt w_lt outside none =
      let w = pattern_of b j in
      let p = point_at t k in
      let o = observed_at t k in
      let is_point = point_at-IsPoint t sound k in_points in
      let o_lt = observed_in_range t sound g belongs.built k in_points in
      elim (kinds (pattern_at t w).kind) [
        | inl capture ↦
            let captured : captures t w ≡ true = ap (λ (x : Bool). x && same_kind Capture (pattern_at t w).kind) (lt-ltb w (length t.patterns) w_lt) ∙ ap (same_kind Capture) capture in
            outside_shows_net t sound w h K c p is_point capture outside
            ∙ sym (loaded.nets belongs.built.wired.live belongs.built.wired.covers belongs.built.wired.up o j o_lt (observed_live t sound g belongs.built k in_points) lt captured)
            ∙ own_no_row g s b j o none
            ∙ good_is t g belongs b j o block_lt lt o_lt captured
            ∙ sym (observed_good t sound w p is_point capture)
        | inr shift ↦ shift_outside t sound w h K c p shift outside
      ]

  module _ (m : FaultModel) (chains : IsChainModel t m) where
    -- point k shows its fault-free values, if place q sees it
    abbrev IsQuiet : ℕ → ℕ → Type 0
    IsQuiet q k = m.sees q k ≡ true → (j : ℕ) → j < 512 → pattern_of b j < length t.patterns → observed t (Some f) (pattern_of b j) (point_at t k) ≡ observed t None (pattern_of b j) (point_at t k)

    -- a place that sees such points alone doesn't fail
    quiet_lane : (q j : ℕ) → q < m.places → j < 512 → ((k : ℕ) → k < length (points_of t) → IsQuiet q k) → fails_in m b f q j ≡ false
    quiet_lane q j q_lt lt quiet =
        let w = pattern_of b j in
        elim (cases_Bool (m.exists w)) [
          | inl there ↦ ap (λ (x : Bool). x && m.fails f w q) there ∙ chains.silent f w q q_lt (λ k k_lt sees. quiet k k_lt sees j lt (chains.patterns w there))
          | inr gone ↦ ap (λ (x : Bool). x && m.fails f w q) gone
        ]

    -- after empty notes, those of nets with rows of their own and those of the chain all notes are fresh
    module _ (start touched notes : List (List ℕ))
        (empty : (q j : ℕ) → q < m.places → j < 512 → table_of start q j ≡ false)
        (first : IsRenoted m b f start touched) (second : IsRenoted m b f touched notes)
        (nets : (n : ℕ) → has_own_row s n ≡ true → AreFreshAt t m b f touched n)
        (cells : (i : ℕ) → i < length (chain_at t h).cells → AreFreshAt t m b f notes (observed_net t (Cell h i))) where
      quiet_fresh : (q : ℕ) → q < m.places → ((k : ℕ) → k < length (points_of t) → IsQuiet q k) → IsFresh m b f start q
      quiet_fresh q lt quiet j lane_lt = empty q j lt lane_lt ∙ sym (quiet_lane q j lt lane_lt quiet)

      inside_fresh : (q k i : ℕ) → q < m.places → m.sees q k ≡ true → k < length (points_of t) → point_at t k ≡ Cell h i → IsFresh m b f notes q
      inside_fresh q k i q_lt sees lt at =
          let is_point : IsPoint t (Cell h i) = subst (IsPoint t) at (point_at-IsPoint t sound k lt) in
          cells i is_point.1 k lt (ap (observed_net t) at) q q_lt sees

      outside_fresh : (q k : ℕ) → q < m.places → m.sees q k ≡ true → k < length (points_of t) → IsOutside h (point_at t k) → IsQuiet q k ⊎ IsFresh m b f notes q
      outside_fresh q k q_lt sees lt outside = elim (cases_Bool (has_own_row s (observed_at t k))) [
        | inl own ↦ inr (fresh_kept m b f touched notes second q (nets (observed_at t k) own k lt refl q q_lt sees))
        | inr none ↦ inl (λ is j lane_lt w_lt. quiet_value k j lt lane_lt w_lt outside none)
      ]

      at_point : (q k : ℕ) → q < m.places → k < length (points_of t) → IsQuiet q k ⊎ IsFresh m b f notes q
      at_point q k q_lt lt = elim (cases_Bool (m.sees q k)) [
        | inr blind ↦ inl (λ sees. absurd (both_ways (m.sees q k) blind sees))
        | inl sees ↦ elim (stands h (point_at t k)) [
          | inl outside ↦ outside_fresh q k q_lt sees lt outside
          | inr at ↦ inr (inside_fresh q k at.0 q_lt sees lt at.1)
        ]
      ]

      pub begun_fresh : (q : ℕ) → q < m.places → IsFresh m b f notes q
      begun_fresh q lt = elim (each_or_some (IsQuiet q) (λ k. IsFresh m b f notes q) (length (points_of t)) (λ k k_lt. at_point q k lt k_lt)) [
        | inl quiet ↦ fresh_kept m b f touched notes second q (fresh_kept m b f start touched first q (quiet_fresh q lt quiet))
        | inr found ↦ found.2
      ]
