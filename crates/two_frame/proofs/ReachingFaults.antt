-- The suspects, site by site.
use Rattle.std.proofs.Common.{◌≡◌, ℕ, ◌+◌, ◌-◌, ◌*◌, ◌<◌, List, [], ◌∷◌, ◌++◌, length, get_or, Bool, true, false, refl, sym, ap, subst, ◌∙◌, arith}
use Rattle.std.specs.Prelude.{filter, flat_map}
use Rattle.std.specs.List.{range_with_len}
use Rattle.std.proofs.lemmas.List.{map-append, length-append, append-nil}
use Rattle.std.proofs.lemmas.List.Elements.{All-push, All-nil}
use Rattle.std.proofs.lemmas.Option.{get_or_from_slice_get, slice_get_within}
use Rattle.scan_model.specs.declared.fault.Stuck.TheVariants.{Zero, One}
use Rattle.scan_model.specs.declared.fault.Fault.{Fault}
use Rattle.scan_model.specs.declared.fault.Fault.TheVariants.{Stem, Branch}
use Rattle.scan_model.specs.Netlist.{is_branch, pin_numbers, pin_at}
use Rattle.scan_model.specs.Marks.{is_marked}
use Rattle.scan_model.specs.ScanTest.{ScanTest}
use Rattle.scan_model.specs.Universe.{stems, branches, bridges, cells, branch_faults}
use Rattle.scan_model.specs.ReportText.{no_fault}
use Rattle.scan_model.proofs.Orders.{filter_range_at, filter_range_more}
use Rattle.fault_universe.proofs.Blocks.{slice_get-left, slice_get-right}
use Rattle.fault_universe.proofs.StemPlaces.{length-stems_of, zero_at, one_at}
use Rattle.fault_universe.proofs.BranchPlaces.{length-branches_of, branch_zero_at, branch_one_at}
use Rattle.fault_effects.specs.declared.suspect.Suspect.{Suspect}
use Rattle.fault_effects.specs.Owners.{IsSuspectOf}
use Rattle.two_frame.specs.TwoFrame.{transitions}
use Rattle.two_frame.specs.FrameRows.{transition_at}
use Rattle.two_frame.specs.FanInMarks.{reaches}
use Rattle.two_frame.specs.ReachingFaults.{IsMarkedAs, AreReachingTo}

-- ---- one more fault

module _ (t : ScanTest) (marks : List Bool) (place : ℕ) (f : Fault) where
  reaches_there : (marked : Bool) → IsMarkedAs t marks marked place f → reaches t marks (transition_at t place) ≡ marked
  reaches_there marked is = ap (reaches t marks) (get_or_from_slice_get (transitions t) place f no_fault is.at) ∙ is.reached

  suspect_there : (marked : Bool) → IsMarkedAs t marks marked place f → IsSuspectOf t (record { place = place; fault = f })
  suspect_there marked is =
      let within = slice_get_within (transitions t) place f is.at in
      record {
        at = slice_get-left (transitions t ++ bridges t) (cells t) place (omega (arith, within, length-append (transitions t) (bridges t)))
            ∙ slice_get-left (transitions t) (bridges t) place within ∙ is.at;
        site = is.site;
      }

  -- whose net has a mark
  pub reaching_more : (suspects : List Suspect) → IsMarkedAs t marks true place f → AreReachingTo t marks place suspects → AreReachingTo t marks (place + 1) (suspects ++ record { place = place; fault = f } ∷ [])
  reaching_more suspects is are =
      let s : Suspect = record { place = place; fault = f } in
      let there = reaches_there true is in
      record {
        each = All-push (IsSuspectOf t) suspects s are.each (suspect_there true is);
        few = omega (arith, are.few, length-append suspects (s ∷ []));
        below = All-push (λ (s : Suspect). s.place < length (transitions t)) suspects s are.below (slice_get_within (transitions t) place f is.at);
        places = map-append (λ (s : Suspect). s.place) suspects (s ∷ []) ∙ ap (λ (ps : List ℕ). ps ++ place ∷ []) are.places
            ∙ sym (filter_range_more (λ p. reaches t marks (transition_at t p)) place ∙ rw there refl);
      }

  -- whose net has none
  pub reaching_past : (suspects : List Suspect) → IsMarkedAs t marks false place f → AreReachingTo t marks place suspects → AreReachingTo t marks (place + 1) suspects
  reaching_past suspects is are =
      let there = reaches_there false is in
      record {
        each = are.each;
        few = omega (arith, are.few);
        below = are.below;
        places = are.places ∙ sym (filter_range_more (λ p. reaches t marks (transition_at t p)) place ∙ rw there (append-nil (filter (λ p. reaches t marks (transition_at t p)) (range_with_len 0 place))));
      }

pub reaching_none : (t : ScanTest) (marks : List Bool) → AreReachingTo t marks 0 []
reaching_none t marks = record {
  each = All-nil (IsSuspectOf t);
  few = omega arith;
  below = All-nil (λ (s : Suspect). s.place < length (transitions t));
  places = refl;
}

-- ---- the sites

module _ (t : ScanTest) (marks : List Bool) where
  pub stem_rises : (n : ℕ) (marked : Bool) → n < length t.netlist.nets → is_marked marks n ≡ marked → IsMarkedAs t marks marked (2 * n) (Stem n Zero)
  stem_rises n marked lt is =
      let start : 0 + n ≡ n = omega arith in
      record {
        at = slice_get-left (stems t) (branches t) (2 * n) (omega (arith, lt, length-stems_of 0 (length t.netlist.nets))) ∙ rw start at (zero_at 0 (length t.netlist.nets) n lt);
        site = lt;
        reached = is;
      }

  pub stem_falls : (n : ℕ) (marked : Bool) → n < length t.netlist.nets → is_marked marks n ≡ marked → IsMarkedAs t marks marked (2 * n + 1) (Stem n One)
  stem_falls n marked lt is =
      let start : 0 + n ≡ n = omega arith in
      record {
        at = slice_get-left (stems t) (branches t) (2 * n + 1) (omega (arith, lt, length-stems_of 0 (length t.netlist.nets))) ∙ rw start at (one_at 0 (length t.netlist.nets) n lt);
        site = lt;
        reached = is;
      }

  -- the pins with branches are `pins`
  pub branches_len : (pins : List ℕ) → pins ≡ filter (is_branch t.netlist) (pin_numbers t.netlist) → length (branches t) ≡ 2 * length pins
  branches_len pins are = ap (λ (ps : List ℕ). length (flat_map branch_faults ps)) (sym are) ∙ length-branches_of pins

  pub pin_within : (pins : List ℕ) (i : ℕ) → pins ≡ filter (is_branch t.netlist) (pin_numbers t.netlist) → i < length pins → get_or pins i 0 < length t.netlist.pins
  pin_within pins i are lt =
      let Within : List ℕ → Type 0 = λ ps. i < length ps → get_or ps i 0 < length t.netlist.pins in
      subst Within (sym are) (λ there. omega (arith, (filter_range_at (is_branch t.netlist) 0 (length t.netlist.pins) i 0 there).1)) lt

  pub branch_rises : (pins : List ℕ) (i place : ℕ) (marked : Bool) → pins ≡ filter (is_branch t.netlist) (pin_numbers t.netlist) → i < length pins → length (stems t) + 2 * i ≡ place → get_or pins i 0 < length t.netlist.pins
      → is_marked marks (pin_at t.netlist (get_or pins i 0)).net ≡ marked → IsMarkedAs t marks marked place (Branch (get_or pins i 0) Zero)
  branch_rises pins i place marked are lt here site is = record {
    at = slice_get-right (stems t) (branches t) place (omega (arith, here)) ∙ rw (← are) (branch_zero_at pins i (place - length (stems t)) lt (omega (arith, here)));
    site = site;
    reached = is;
  }

  pub branch_falls : (pins : List ℕ) (i place : ℕ) (marked : Bool) → pins ≡ filter (is_branch t.netlist) (pin_numbers t.netlist) → i < length pins → length (stems t) + 2 * i + 1 ≡ place → get_or pins i 0 < length t.netlist.pins
      → is_marked marks (pin_at t.netlist (get_or pins i 0)).net ≡ marked → IsMarkedAs t marks marked place (Branch (get_or pins i 0) One)
  branch_falls pins i place marked are lt here site is = record {
    at = slice_get-right (stems t) (branches t) place (omega (arith, here)) ∙ rw (← are) (branch_one_at pins i (place - length (stems t)) lt (omega (arith, here)));
    site = site;
    reached = is;
  }
