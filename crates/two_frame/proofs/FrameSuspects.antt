-- The transition faults as suspects, and the rows of the logs by the second frame's expected values.
use Rattle.std.proofs.Common.{◌≡◌, ℕ, ◌+◌, ◌-◌, ◌<◌, ltb, ◌&&◌, List, [], length, get_or, Some, None, refl, ap, ◌∙◌, inl, inr, arith}
use Rattle.std.specs.Prelude.{All, Contains, slice_get}
use Rattle.std.proofs.lemmas.Bool.{cases_Bool, ltb-true, ltb-false}
use Rattle.std.proofs.lemmas.List.FromFn.{get_or-map-range_with_len}
use Rattle.std.proofs.lemmas.Option.{get_or_from_slice_get, slice_get-get_or, slice_get_within}
use Rattle.scan_model.specs.declared.values.Tri.{Tri}
use Rattle.scan_model.specs.declared.fault.Fault.{Fault}
use Rattle.scan_model.specs.declared.fault.Fault.TheVariants as fault
use Rattle.scan_model.specs.declared.logs.LogFacts.{LogFacts}
use Rattle.scan_model.specs.ChainShift.{value_at}
use Rattle.scan_model.specs.ScanTest.{ScanTest, IsScanTest, HasSite, points_of}
use Rattle.scan_model.specs.Universe.{universe}
use Rattle.scan_model.specs.Coverage.{bit_of}
use Rattle.scan_model.specs.Classes.{class_of}
use Rattle.scan_model.specs.ReportText.{no_fault}
use Rattle.lane_rows.specs.Lanes.{lane}
use Rattle.lane_rows.specs.GoodRows.{pattern_of}
use Rattle.log_rows.specs.declared.point_row.PointRow.{PointRow}
use Rattle.log_rows.specs.declared.side.Side.{Side}
use Rattle.log_rows.specs.declared.side.Side.TheVariants.{Failing, Passing}
use Rattle.fault_effects.specs.declared.suspect.Suspect.{Suspect}
use Rattle.log_rows.specs.PointRows.{is_on, is_on_at}
use Rattle.log_rows.specs.PlaceRows.{ArePlaceRows}
use Rattle.fault_effects.specs.Owners.{owner, IsSuspectOf}
use Rattle.fault_effects.proofs.Owned.{IsOfPath, not_past}
use Rattle.match_counts.specs.Flips.{row_on, point_row_at}
use Rattle.match_counts.specs.Sides.{classes_by, AreSideRows}
use Rattle.two_frame.specs.TwoFrame.{transitions, frame_response, frame_rows, frame_class}
use Rattle.two_frame.specs.FrameModel.{frame_model}
use Rattle.two_frame.proofs.SlowPlaces.{slow_at}
use Rattle.two_frame.proofs.TransitionPlaces.{no_bridge_in, no_cell_in}

module _ (t : ScanTest) (suspects : List Suspect) (are : All (IsSuspectOf t) suspects) (below : All (λ s. s.place < length (transitions t)) suspects) where
  -- each stands at its place in the list of transition faults
  pub suspects_in : All (λ s. slice_get (transitions t) s.place ≡ Some s.fault) suspects
  suspects_in k d lt =
      let s = get_or suspects k d in
      let within = below k d lt in
      slice_get-get_or (transitions t) s.place no_fault within
      ∙ ap Some (slow_at t s.place no_fault within ∙ get_or_from_slice_get (universe t) s.place s.fault no_fault (are k d lt).at)

  -- and so is one of them
  pub suspects_among : All (λ s. Contains (transitions t) s.fault) suspects
  suspects_among k d lt =
      let s = get_or suspects k d in
      let at = suspects_in k d lt in
      (s.place, slice_get_within (transitions t) s.place s.fault at, get_or_from_slice_get (transitions t) s.place s.fault s.fault at)

owned_by_logic : (t : ScanTest) (f : Fault) → IsScanTest t → HasSite t f → (IsOfPath f → ⊥) → owner t f < length t.netlist.nets + 1
owned_by_logic t f sound site other = elim (cases_Bool (ltb (owner t f) (length t.netlist.nets + 1))) [
  | inl within ↦ ltb-true (owner t f) (length t.netlist.nets + 1) within
  | inr past ↦
      let above = ltb-false (owner t f) (length t.netlist.nets + 1) past in
      absurd (other (not_past t f (owner t f - length t.netlist.nets) sound site (omega (arith, above)) (omega (arith, above))))
]

-- a transition fault is a net's, or a pin's
pub transition_owner : (t : ScanTest) (f : Fault) → IsScanTest t → HasSite t f → Contains (transitions t) f → owner t f < length t.netlist.nets + 1
transition_owner t (fault.Stem n v) sound site there = owned_by_logic t (fault.Stem n v) sound site (λ no. no)
transition_owner t (fault.Branch p v) sound site there = owned_by_logic t (fault.Branch p v) sound site (λ no. no)
transition_owner t (fault.Bridge a b kind) sound site there = absurd (no_bridge_in t a b kind there)
transition_owner t (fault.Cell h c kind) sound site there = absurd (no_cell_in t h c kind there)

-- ---- the logs

-- what is expected of a pattern is its row
frame_on : (t : ScanTest) (logs : List LogFacts) (side : Side) (w k : ℕ) → is_on_at logs (frame_rows t) (length t.patterns) side w k ≡ (ltb w (length t.patterns) && classes_by (frame_class t logs) side w k)
frame_on t logs side w k = elim (cases_Bool (ltb w (length t.patterns))) [
  | inl within ↦ rw within (ap (λ (row : List Tri). is_on side (class_of logs (value_at row k) (bit_of w k)))
      (get_or-map-range_with_len (frame_response t None) 0 (length t.patterns) w w [] (ltb-true w (length t.patterns) within) (omega arith)))
  | inr past ↦ rw past refl
]

frame_on_of : (t : ScanTest) (logs : List LogFacts) (expected : List (List Tri)) (patterns : ℕ) (side : Side) (w k : ℕ) → expected ≡ frame_rows t → patterns ≡ length t.patterns
    → is_on_at logs expected patterns side w k ≡ (ltb w (length t.patterns) && classes_by (frame_class t logs) side w k)
frame_on_of t logs expected patterns side w k is_expected is_patterns = rw (is_expected, is_patterns) (frame_on t logs side w k)

-- the rows of a block have the classes of the second frame's bits
pub frame_sides : (t : ScanTest) (logs : List LogFacts) (expected : List (List Tri)) (patterns places b : ℕ) (rows : List PointRow) → expected ≡ frame_rows t → patterns ≡ length t.patterns → places ≡ length (points_of t)
    → ArePlaceRows logs expected patterns places b rows → AreSideRows (frame_model t) (classes_by (frame_class t logs)) b rows
frame_sides t logs expected patterns places b rows is_expected is_patterns is_places are = record { len = are.len ∙ is_places; each = by_side }
  where
    by_side : (side : Side) (q j : ℕ) → q < length (points_of t) → j < 512 → lane (row_on side (point_row_at rows q)) j ≡ (ltb (pattern_of b j) (length t.patterns) && classes_by (frame_class t logs) side (pattern_of b j) q)
    by_side Failing q j q_lt lt = (are.each q (omega (arith, q_lt, are.len, is_places))).failing j lt ∙ frame_on_of t logs expected patterns Failing (pattern_of b j) q is_expected is_patterns
    by_side Passing q j q_lt lt = (are.each q (omega (arith, q_lt, are.len, is_places))).passing j lt ∙ frame_on_of t logs expected patterns Passing (pattern_of b j) q is_expected is_patterns
