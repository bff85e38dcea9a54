-- Where a logic fault predicts fails, by the flips of the nets that it touches.
use Rattle.std.proofs.Common.{◌≡◌, ℕ, ◌<◌, Bool, true, false, ◌&&◌, ◌||◌, List, [], ◌∷◌, refl, sym, ap, ◌∙◌, inl, inr, arith}
use Rattle.std.specs.Prelude.{Contains}
use Rattle.std.specs.List.{list_any}
use Rattle.std.proofs.Math.Bool.{and_assoc, and_comm}
use Rattle.std.proofs.lemmas.Bool.{cases_Bool}
use Rattle.scan_model.specs.declared.fault.Fault.{Fault}
use Rattle.scan_model.specs.declared.fault.Fault.TheVariants as fault
use Rattle.scan_model.specs.declared.fault.BridgeKind.{BridgeKind}
use Rattle.scan_model.specs.ScanTest.{ScanTest}
use Rattle.scan_model.specs.Masks.{touched_nets, IsLogic}
use Rattle.lane_rows.specs.Lanes.{lane}
use Rattle.lane_rows.specs.GoodRows.{pattern_of}
use Rattle.fault_effects.specs.declared.readers.SoleReader.{SoleReader}
use Rattle.fault_effects.specs.FaultModel.{FaultModel, Table, IsFaultModel, fails_in, shown_in, straight_in}
use Rattle.fault_effects.specs.Readers.{IsSoleReader}
use Rattle.fault_effects.specs.Regions.{ShowsAs, ShowsThrough}
use Rattle.fault_effects.proofs.Owned.{touches_one}

one_bits : (c s k x : Bool) → (c ≡ true → k ≡ x) → ((c && s) && k) ≡ (c && (((x && s) || false) || false))
one_bits false s k x same = refl
one_bits true s k x same = rw (same refl) (swap s x)
  where
    swap : (s x : Bool) → (s && x) ≡ (((x && s) || false) || false)
    swap true true = refl
    swap true false = refl
    swap false true = refl
    swap false false = refl

two_bits : (c s r k l x y : Bool) → (c ≡ true → k ≡ x) → (c ≡ true → l ≡ y) → (((c && s) && k) || ((c && r) && l)) ≡ (c && (((x && s) || ((y && r) || false)) || false))
two_bits false s r k l x y first second = refl
two_bits true s r k l x y first second = rw (first refl, second refl) (swap s r x y)
  where
    rest : (r y : Bool) → (r && y) ≡ (((y && r) || false) || false)
    rest true true = refl
    rest true false = refl
    rest false true = refl
    rest false false = refl

    swap : (s r x y : Bool) → ((s && x) || (r && y)) ≡ (((x && s) || ((y && r) || false)) || false)
    swap true r true y = refl
    swap true r false y = rest r y
    swap false r true y = rest r y
    swap false r false y = rest r y

apart_bits : (c s r k l x y : Bool) → (c ≡ true → k ≡ x) → (c ≡ true → l ≡ y) → (x && y) ≡ false → (((c && s) && k) && ((c && r) && l)) ≡ false
apart_bits false s r k l x y first second apart = refl
apart_bits true s r k l x y first second apart = rw (first refl, second refl) (go s r x y apart)
  where
    go : (s r x y : Bool) → (x && y) ≡ false → ((s && x) && (r && y)) ≡ false
    go false r x y apart = refl
    go true r false y apart = refl
    go true true true false apart = refl
    go true false true false apart = refl
    go true true true true apart = absurd cc
    go true false true true apart = refl

behind_bits : (c n g k x : Bool) → (c ≡ true → n ≡ (x && g)) → (c ≡ true → k ≡ x) → (c && n) ≡ ((c && g) && k)
behind_bits false n g k x shows same = refl
behind_bits true n g k x shows same = rw (shows refl, same refl) (and_comm x g)

-- in all lanes a net shows as it does
pub in_all : (m : FaultModel) (b n : ℕ) (all : List ℕ) → ((j : ℕ) → j < 512 → lane all j ≡ true) → ShowsAs m b (shown_in m b n) n all
in_all m b n all each q j within lt = with_all (shown_in m b n q j) (lane all j) (each j lt)
  where
    with_all : (x l : Bool) → l ≡ true → x ≡ (x && l)
    with_all true l is = sym is
    with_all false l is = refl

-- where a net shows where another does, and that one as it does
pub through_both : (m : FaultModel) (b : ℕ) (root : Table) (n g : ℕ) (lanes above both : List ℕ) → ShowsThrough m b n g lanes → ShowsAs m b root g above
    → ((j : ℕ) → j < 512 → lane both j ≡ (lane above j && lane lanes j)) → ShowsAs m b root n both
through_both m b root n g lanes above both through shows of_both q j within lt =
    through q j within lt
    ∙ ap (λ (x : Bool). x && lane lanes j) (shows q j within lt)
    ∙ and_assoc (root q j) (lane above j) (lane lanes j)
    ∙ ap (λ (x : Bool). root q j && x) (sym (of_both j lt))

-- what shows as another table does in some lanes, in other lanes besides
pub in_lanes : (m : FaultModel) (b : ℕ) (root : Table) (n : ℕ) (lanes mask both : List ℕ) → ShowsAs m b root n lanes → ((j : ℕ) → j < 512 → lane both j ≡ (lane lanes j && lane mask j))
    → (q j : ℕ) → q < m.places → j < 512 → (root q j && lane both j) ≡ (shown_in m b n q j && lane mask j)
in_lanes m b root n lanes mask both shows of_both q j within lt =
    ap (λ (x : Bool). root q j && x) (of_both j lt)
    ∙ sym (and_assoc (root q j) (lane lanes j) (lane mask j))
    ∙ ap (λ (x : Bool). x && lane mask j) (sym (shows q j within lt))

module _ (t : ScanTest) (faults : List Fault) (m : FaultModel) (law : IsFaultModel t faults m) (b : ℕ) where
  -- a net shows where the gate does that alone reads it, in the lanes in which the pin flips the gate
  pub through_reader : (n : ℕ) (r : SoleReader) (lanes : List ℕ) → IsSoleReader t n r
      → ((j : ℕ) → j < 512 → m.captures (pattern_of b j) ≡ true → lane lanes j ≡ m.pin_flips (pattern_of b j) r.pin r.gate) → ShowsThrough m b n r.gate lanes
  through_reader n r lanes sole are q j within lt =
      let w = pattern_of b j in
      behind_bits (m.captures w) (m.shows w n q) (m.shows w r.gate q) (lane lanes j) (m.pin_flips w r.pin r.gate) (law.downstream w n r sole q within) (are j lt)

  module _ (f : Fault) (there : Contains faults f) (logic : IsLogic f) where
    -- a pattern that isn't there counts no flip
    fails_is : (w q : ℕ) → q < m.places → (m.captures w && (list_any (λ n. m.flips f w n && m.shows w n q) (touched_nets t f) || m.straight f w q)) ≡ (m.exists w && m.fails f w q)
    fails_is w q within = elim (cases_Bool (m.exists w)) [
      | inl is ↦ rw is (sym (law.logic f there logic w q within is))
      | inr past ↦ elim (cases_Bool (m.captures w)) [
        | inl captured ↦ absurd (let e : true ≡ false = sym (law.there w captured) ∙ past in cc)
        | inr off ↦ rw (past, off) refl
      ]
    ]

    -- of a fault that touches one net
    pub one_net_fails : (n : ℕ) (root : Table) (lanes mask both : List ℕ) → touched_nets t f ≡ n ∷ [] → ShowsAs m b root n lanes
        → ((j : ℕ) → j < 512 → m.captures (pattern_of b j) ≡ true → lane mask j ≡ m.flips f (pattern_of b j) n) → ((j : ℕ) → j < 512 → lane both j ≡ (lane lanes j && lane mask j))
        → (q j : ℕ) → q < m.places → j < 512 → (root q j && lane both j) ≡ fails_in m b f q j
    one_net_fails n root lanes mask both touches shows masked of_both q j within lt =
        let w = pattern_of b j in
        let silent : m.straight f w q ≡ false = law.apart f n w q logic (touches_one t f n touches) in
        ap (λ (x : Bool). root q j && x) (of_both j lt)
        ∙ sym (and_assoc (root q j) (lane lanes j) (lane mask j))
        ∙ ap (λ (x : Bool). x && lane mask j) (sym (shows q j within lt))
        ∙ one_bits (m.captures w) (m.shows w n q) (lane mask j) (m.flips f w n) (masked j lt)
        ∙ ap (λ (x : Bool). m.captures w && (((m.flips f w n && m.shows w n q) || false) || x)) (sym silent)
        ∙ ap (λ (ns : List ℕ). m.captures w && (list_any (λ k. m.flips f w k && m.shows w k q) ns || m.straight f w q)) (sym touches)
        ∙ fails_is w q within

    -- of a fault whose pin goes straight to points
    pub straight_fails : touched_nets t f ≡ [] → (q j : ℕ) → q < m.places → j < 512 → straight_in m b f q j ≡ fails_in m b f q j
    straight_fails touches q j within lt =
        let w = pattern_of b j in
        ap (λ (ns : List ℕ). m.captures w && (list_any (λ k. m.flips f w k && m.shows w k q) ns || m.straight f w q)) (sym touches)
        ∙ fails_is w q within

  module _ (a c : ℕ) (kind : BridgeKind) (first second : List ℕ)
      (at_first : (j : ℕ) → j < 512 → m.captures (pattern_of b j) ≡ true → lane first j ≡ m.flips (fault.Bridge a c kind) (pattern_of b j) a)
      (at_second : (j : ℕ) → j < 512 → m.captures (pattern_of b j) ≡ true → lane second j ≡ m.flips (fault.Bridge a c kind) (pattern_of b j) c) where
    -- of a bridge
    pub bridge_fails : Contains faults (fault.Bridge a c kind) → (q j : ℕ) → q < m.places → j < 512
        → ((shown_in m b a q j && lane first j) || (shown_in m b c q j && lane second j)) ≡ fails_in m b (fault.Bridge a c kind) q j
    bridge_fails there q j within lt =
        let w = pattern_of b j in
        let f = fault.Bridge a c kind in
        let silent : m.straight f w q ≡ false = law.apart f a w q tt (0, omega arith, refl) in
        two_bits (m.captures w) (m.shows w a q) (m.shows w c q) (lane first j) (lane second j) (m.flips f w a) (m.flips f w c) (at_first j lt) (at_second j lt)
        ∙ ap (λ (x : Bool). m.captures w && (((m.flips f w a && m.shows w a q) || ((m.flips f w c && m.shows w c q) || false)) || x)) (sym silent)
        ∙ fails_is f there tt w q within

    -- which flips one of its nets in a lane at most
    pub bridge_apart : (q p j : ℕ) → j < 512 → ((shown_in m b a q j && lane first j) && (shown_in m b c p j && lane second j)) ≡ false
    bridge_apart q p j lt =
        let w = pattern_of b j in
        let f = fault.Bridge a c kind in
        apart_bits (m.captures w) (m.shows w a q) (m.shows w c p) (lane first j) (lane second j) (m.flips f w a) (m.flips f w c) (at_first j lt) (at_second j lt) (law.one_net a c w kind)
