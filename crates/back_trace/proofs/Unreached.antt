-- Faults at sites without lanes explain nothing, and stay without a mark.
use Rattle.std.proofs.Common.{◌≡◌, ℕ, zero, suc, ◌+◌, ◌-◌, ◌<◌, Bool, true, false, ◌&&◌, List, [], ◌∷◌, length, get_or, refl, sym, ap, subst, ◌∙◌, inl, inr, arith}
use Rattle.std.specs.List.{AllByRecursion}
use Rattle.std.proofs.lemmas.Bool.{cases_lt, both_ways}
use Rattle.std.proofs.lemmas.List.Elements.{All-from_recursion}
use Rattle.scan_model.specs.declared.circuit.PinPlace.{PinPlace}
use Rattle.scan_model.specs.declared.circuit.PinPlace.TheVariants as place
use Rattle.scan_model.specs.declared.circuit.Driver.{Driver}
use Rattle.scan_model.specs.declared.circuit.Driver.TheVariants.{Input, Flop, Gate}
use Rattle.scan_model.specs.declared.fault.Stuck.{Stuck}
use Rattle.scan_model.specs.declared.fault.Stuck.TheVariants as stuck
use Rattle.scan_model.specs.declared.fault.BridgeKind.{BridgeKind}
use Rattle.scan_model.specs.declared.fault.BridgeKind.TheVariants.{Dominant, WiredAnd, WiredOr, DominantAnd, DominantOr}
use Rattle.scan_model.specs.declared.fault.Profile.{Profile}
use Rattle.scan_model.specs.declared.fault.Profile.TheVariants.{One, Two}
use Rattle.scan_model.specs.declared.parts.Pair.{Pair}
use Rattle.scan_model.specs.declared.fault.Fault.{Fault}
use Rattle.scan_model.specs.declared.fault.Fault.TheVariants as fault
use Rattle.scan_model.specs.Values.{are_opposite}
use Rattle.scan_model.specs.NetValue.{good_value}
use Rattle.scan_model.specs.Faults.{stuck_value, bridged, takes}
use Rattle.scan_model.specs.Netlist.{driver_of, pin_at}
use Rattle.scan_model.specs.ScanTest.{ScanTest}
use Rattle.scan_model.specs.Universe.{universe, stem_faults, branch_faults, bridge_faults, bridges_per_pair}
use Rattle.scan_model.specs.Suspect.{net_reaches, place_reaches, operand_reaches}
use Rattle.lane_rows.specs.declared.block.Block.{Block}
use Rattle.lane_rows.specs.Lanes.{lane}
use Rattle.lane_rows.specs.GoodRows.{AreBlockRows, pattern_of}
use Rattle.explained_lanes.specs.declared.trace.Trace.{Trace}
use Rattle.explained_lanes.specs.Fails.{any_fail, explains_in, IsWithin}
use Rattle.explained_lanes.specs.Traces.{lane_at, IsPlaceIn}
use Rattle.back_trace.specs.SuspectMarks.{AreMarked, no_fault, IsUnreached, IsTraced, StandAt, MarksOn}
use Rattle.explained_lanes.proofs.Explained.{logic_is, one_site_is, two_sites_are, operand_is, input_reaches_none}
use Rattle.back_trace.proofs.Standing.{fault_there}
use Rattle.fault_universe.proofs.BridgePlaces.{faults_counted}

-- ---- marks that stay

pub passed_by : (t : ScanTest) (b : ℕ) (rows : List (List ℕ)) (faults : List Fault) (from n : ℕ) (old marks : List Bool) → AreMarked t b rows faults from old marks
    → ((k : ℕ) → k < n → (j : ℕ) → j < 512 → explains_in t (get_or faults (from + k) no_fault) b rows j ≡ false) → AreMarked t b rows faults (from + n) old marks
passed_by t b rows faults from n old marks so_far none = record {
  len = so_far.len;
  found = λ p e. elim (so_far.found p e) [ inl before ↦ inl before | inr now ↦ inr (omega (arith, now.0), now.1) ];
  kept = so_far.kept;
  all = λ p j lp lj e. elim (cases_lt p from) [
    | inl before ↦ so_far.all p j before lj e
    | inr past ↦
        let k = p - from in
        let same : from + k ≡ p = omega (arith, past) in
        absurd (both_ways (explains_in t (get_or faults p no_fault) b rows j) (ap (λ (q : ℕ). explains_in t (get_or faults q no_fault) b rows j) (sym same) ∙ none k (omega (arith, past, lp)) j lj) e)
  ];
}

pub marks_stay : (t : ScanTest) (block : Block) (x : Trace) (from : ℕ) (faults : List Fault) (marks : List Bool) → StandAt t from faults
    → ((b : ℕ) → AreBlockRows t b block → IsWithin t b x.fails → (k : ℕ) → k < length faults → (j : ℕ) → j < 512 → explains_in t (get_or faults k no_fault) b x.fails j ≡ false) → MarksOn t block x from (from + length faults) marks marks
marks_stay t block x from faults marks stand none = λ b good within first so_far.
    passed_by t b x.fails (universe t) from (length faults) first marks so_far
    (λ k lk j lj. ap (λ (f : Fault). explains_in t f b x.fails j) (fault_there t from faults stand k lk no_fault) ∙ none b good within k lk j lj)

-- ---- sites that aren't reached

each_of_two : (P : Fault → Type 0) (f g : Fault) → P f → P g → (k : ℕ) → k < 2 → P (get_or (f ∷ g ∷ []) k no_fault)
each_of_two P f g one two zero lt = one
each_of_two P f g one two (suc zero) lt = two
each_of_two P f g one two (suc (suc k)) lt = absurd (omega arith)

nothing : (b : Bool) → false ≡ (b && false)
nothing true = refl
nothing false = refl

module _ (t : ScanTest) (block : Block) (x : Trace) (traced : IsTraced t block x) where
  module _ (b : ℕ) (good : AreBlockRows t b block) (within : IsWithin t b x.fails) (j : ℕ) (lj : j < 512) where
    abbrev w : ℕ
    w = pattern_of b j

    net_none : (n : ℕ) → n < length t.netlist.nets → lane_at x.reach j n ≡ false → false ≡ (lane block.capture j && any_fail t x.fails j (net_reaches t n))
    net_none n ln none = sym none ∙ traced.trace.reach j n lj ln

    stem_none : (n : ℕ) (v : Stuck) → n < length t.netlist.nets → lane_at x.reach j n ≡ false → explains_in t (fault.Stem n v) b x.fails j ≡ false
    stem_none n v ln none =
        let A = are_opposite (good_value t w n) (stuck_value v) in
        sym (one_site_is t b block good x.fails within j lj false A false A (net_reaches t n) (nothing A) (net_none n ln none) (λ e. refl) ∙ sym (logic_is t b block good x.fails within j lj (fault.Stem n v) tt))

    by_driver : (n : ℕ) (d : Driver) → n < length t.netlist.nets → lane_at x.reach j n ≡ false → lane_at x.cells j n ≡ false → false ≡ (lane block.capture j && any_fail t x.fails j (operand_reaches t d n))
    by_driver n Input ln no_reach no_cell = input_reaches_none t x.fails j n (lane block.capture j)
    by_driver n Flop ln no_reach no_cell = sym no_cell ∙ traced.trace.cells j n lj ln
    by_driver n (Gate kind) ln no_reach no_cell = net_none n ln no_reach

    place_none : (p : PinPlace) → IsPlaceIn t p → IsUnreached x p → false ≡ (lane block.capture j && any_fail t x.fails j (place_reaches t p))
    place_none (place.Operand n i) ln none = operand_is t x.fails j n i (lane block.capture j) (driver_of t.netlist n) false refl (by_driver n (driver_of t.netlist n) ln (none.0 j lj) (none.1 j lj))
    place_none (place.Output k) ln none = absurd none

    branch_none : (p : ℕ) (v : Stuck) → IsPlaceIn t (pin_at t.netlist p).place → IsUnreached x (pin_at t.netlist p).place → explains_in t (fault.Branch p v) b x.fails j ≡ false
    branch_none p v there none =
        let A = are_opposite (good_value t w (pin_at t.netlist p).net) (stuck_value v) in
        sym (one_site_is t b block good x.fails within j lj false A false A (place_reaches t (pin_at t.netlist p).place) (nothing A) (place_none (pin_at t.netlist p).place there none) (λ e. refl)
        ∙ sym (logic_is t b block good x.fails within j lj (fault.Branch p v) tt))

    bridge_none : (m n : ℕ) (kind : BridgeKind) → m < length t.netlist.nets → n < length t.netlist.nets → lane_at x.reach j m ≡ false → lane_at x.reach j n ≡ false → explains_in t (fault.Bridge m n kind) b x.fails j ≡ false
    bridge_none m n kind lm ln no_m no_n =
        let both = bridged kind (good_value t w m) (good_value t w n) in
        let A = takes kind true false && are_opposite (good_value t w m) both in
        let B = are_opposite (good_value t w n) both in
        sym (two_sites_are t b block good x.fails within j lj false false false (λ p. A && net_reaches t m p) (λ p. B && net_reaches t n p) refl
        (one_site_is t b block good x.fails within j lj false A false A (net_reaches t m) (nothing A) (net_none m lm no_m) (λ e. refl))
        (one_site_is t b block good x.fails within j lj false B false B (net_reaches t n) (nothing B) (net_none n ln no_n) (λ e. refl))
        ∙ sym (logic_is t b block good x.fails within j lj (fault.Bridge m n kind) tt))

    abbrev IsNoneHere : Fault → Type 0
    IsNoneHere f = explains_in t f b x.fails j ≡ false

    bridges_none : (profile : Profile) (pair : Pair) → (pair.a < length t.netlist.nets) × (pair.b < length t.netlist.nets) → lane_at x.reach j pair.a ≡ false → lane_at x.reach j pair.b ≡ false → AllByRecursion IsNoneHere (bridge_faults profile pair)
    bridges_none profile pair nets none_a none_b = go profile
      where
        straight : (kind : BridgeKind) → IsNoneHere (fault.Bridge pair.a pair.b kind)
        straight kind = bridge_none pair.a pair.b kind nets.0 nets.1 none_a none_b

        turned : (kind : BridgeKind) → IsNoneHere (fault.Bridge pair.b pair.a kind)
        turned kind = bridge_none pair.b pair.a kind nets.1 nets.0 none_b none_a

        go : (profile : Profile) → AllByRecursion IsNoneHere (bridge_faults profile pair)
        go One = (straight Dominant, (turned Dominant, (straight WiredAnd, (straight WiredOr, tt))))
        go Two = (straight Dominant, (turned Dominant, (straight WiredAnd, (straight WiredOr, (straight DominantAnd, (turned DominantAnd, (straight DominantOr, (turned DominantOr, tt))))))))

  -- ---- the marks of their faults stay

  pub stem_stays : (n from : ℕ) (marks : List Bool) → n < length t.netlist.nets → ((j : ℕ) → j < 512 → lane_at x.reach j n ≡ false) → StandAt t from (stem_faults n) → MarksOn t block x from (from + 2) marks marks
  stem_stays n from marks ln none stand = marks_stay t block x from (stem_faults n) marks stand
      (λ b good within k lk j lj. each_of_two (λ f. explains_in t f b x.fails j ≡ false) (fault.Stem n stuck.Zero) (fault.Stem n stuck.One)
      (stem_none b good within j lj n stuck.Zero ln (none j lj)) (stem_none b good within j lj n stuck.One ln (none j lj)) k lk)

  pub branch_stays : (p from : ℕ) (marks : List Bool) → IsPlaceIn t (pin_at t.netlist p).place → IsUnreached x (pin_at t.netlist p).place → StandAt t from (branch_faults p) → MarksOn t block x from (from + 2) marks marks
  branch_stays p from marks there none stand = marks_stay t block x from (branch_faults p) marks stand
      (λ b good within k lk j lj. each_of_two (λ f. explains_in t f b x.fails j ≡ false) (fault.Branch p stuck.Zero) (fault.Branch p stuck.One)
      (branch_none b good within j lj p stuck.Zero there none) (branch_none b good within j lj p stuck.One there none) k lk)

  pub bridge_stays : (pair : Pair) (from : ℕ) (marks : List Bool) → (pair.a < length t.netlist.nets) × (pair.b < length t.netlist.nets)
      → ((j : ℕ) → j < 512 → lane_at x.reach j pair.a ≡ false) → ((j : ℕ) → j < 512 → lane_at x.reach j pair.b ≡ false) → StandAt t from (bridge_faults t.profile pair)
      → MarksOn t block x from (from + bridges_per_pair t.profile) marks marks
  bridge_stays pair from marks nets none_a none_b stand =
      let faults = bridge_faults t.profile pair in
      subst (λ (n : ℕ). MarksOn t block x from (from + n) marks marks) (faults_counted t.profile pair) (marks_stay t block x from faults marks stand
      (λ b good within k lk j lj. All-from_recursion (λ f. explains_in t f b x.fails j ≡ false) faults (bridges_none b good within j lj t.profile pair nets (none_a j lj) (none_b j lj)) k no_fault lk))
