-- A slow stem is a flip of its net in the second frame, where it changes the transition.
use Rattle.std.proofs.Common.{◌≡◌, ℕ, ◌<◌, Bool, true, false, cond, ◌&&◌, List, length, Option, Some, None, refl, sym, ap, ◌∙◌, inl, inr}
use Rattle.std.proofs.lemmas.Bool.{cases_eq, eq-eqb, ne_eqb}
use Rattle.scan_model.specs.declared.values.Tri.{Tri}
use Rattle.scan_model.specs.declared.values.Tri.TheVariants.{Zero, One, Unknown}
use Rattle.scan_model.specs.declared.circuit.Driver.{Driver}
use Rattle.scan_model.specs.declared.circuit.Driver.TheVariants.{Input, Flop, Gate}
use Rattle.scan_model.specs.declared.fault.Stuck.{Stuck}
use Rattle.scan_model.specs.declared.fault.Stuck.TheVariants as stuck
use Rattle.scan_model.specs.declared.fault.Fault.{Fault}
use Rattle.scan_model.specs.declared.fault.Fault.TheVariants as fault
use Rattle.scan_model.specs.declared.parts.Point.{Point}
use Rattle.scan_model.specs.Values.{are_opposite, tri_not}
use Rattle.scan_model.specs.Netlist.{IsNetlist, driver_of}
use Rattle.scan_model.specs.Walks.{IsEvaluationOrder}
use Rattle.scan_model.specs.ScanTest.{ScanTest, IsScanTest, IsPoint}
use Rattle.scan_model.specs.NetValue.{driven, values_of, nothing_forced, good_value}
use Rattle.scan_model.specs.Suspect.{observed_net}
use Rattle.scan_model.specs.Force.{force}
use Rattle.scan_model.specs.Masks.{flip_shows_from}
use Rattle.scan_model.proofs.NetValues.{values_of-is}
use Rattle.scan_model.proofs.FanSweeps.{reads_in_range}
use Rattle.scan_model.proofs.counting.Valuations.{valuation_is}
use Rattle.scan_model.proofs.counting.Branches.{no_loop}
use Rattle.scan_model.proofs.counting.OneSite.{unflipped, force_outside}
use Rattle.scan_model.proofs.counting.Shown.{point_pin-net, observed_net-in_range}
use Rattle.frame_rows.specs.Frames.{slowed, changes, second_source, second_driven, second_value}
use Rattle.frame_rows.proofs.SecondValues.{driven_local, meets, none_is}
use Rattle.two_frame.specs.TwoFrame.{frame_fails_at}

-- ---- one site

-- a transition that is made is a flip
made_flips : (v : Stuck) (a b : Tri) → changes v a b ≡ true → slowed v a b ≡ tri_not b
made_flips stuck.Zero Zero One e = refl
made_flips stuck.Zero Zero Zero e = absurd cc
made_flips stuck.Zero Zero Unknown e = absurd cc
made_flips stuck.Zero One b e = absurd cc
made_flips stuck.Zero Unknown b e = absurd cc
made_flips stuck.One One Zero e = refl
made_flips stuck.One One One e = absurd cc
made_flips stuck.One One Unknown e = absurd cc
made_flips stuck.One Zero b e = absurd cc
made_flips stuck.One Unknown b e = absurd cc

-- the slowed value is the other one exactly where the transition is made
pub slowed_flips : (v : Stuck) (a b : Tri) → are_opposite b (slowed v a b) ≡ changes v a b
slowed_flips stuck.Zero Zero Zero = refl
slowed_flips stuck.Zero Zero One = refl
slowed_flips stuck.Zero Zero Unknown = refl
slowed_flips stuck.Zero One Zero = refl
slowed_flips stuck.Zero One One = refl
slowed_flips stuck.Zero One Unknown = refl
slowed_flips stuck.Zero Unknown Zero = refl
slowed_flips stuck.Zero Unknown One = refl
slowed_flips stuck.Zero Unknown Unknown = refl
slowed_flips stuck.One Zero Zero = refl
slowed_flips stuck.One Zero One = refl
slowed_flips stuck.One Zero Unknown = refl
slowed_flips stuck.One One Zero = refl
slowed_flips stuck.One One One = refl
slowed_flips stuck.One One Unknown = refl
slowed_flips stuck.One Unknown Zero = refl
slowed_flips stuck.One Unknown One = refl
slowed_flips stuck.One Unknown Unknown = refl

-- any other site is not flipped, also where the first frame is X
pub unmade_stays : (v : Stuck) (a b : Tri) → changes v a b ≡ false → are_opposite b (slowed v a b) ≡ false
unmade_stays v a b e = slowed_flips v a b ∙ e

module _ (t : ScanTest) (sound : IsScanTest t) (order : List ℕ) (ordered : IsEvaluationOrder t.netlist order) (w : ℕ) where
  net_sound : IsNetlist t.netlist
  net_sound = sound.circuit.netlist

  abbrev good2 : ℕ → Tri
  good2 = values_of t.netlist (second_source t w) nothing_forced

  stem_driven : (m : ℕ) (v : Stuck) (x : Tri) (n : ℕ) (f : ℕ → Tri) (d : Driver) → second_driven t (Some (fault.Stem m v)) w d f n ≡ driven t.netlist (second_source t w) (force m x) d f n
  stem_driven m v x n f Input = refl
  stem_driven m v x n f Flop = refl
  stem_driven m v x n f (Gate kind) = refl

  module _ (m : ℕ) (v : Stuck) (m_lt : m < length t.netlist.nets) where
    abbrev F : Option Fault
    F = Some (fault.Stem m v)

    abbrev V : ℕ → Tri
    V = second_value t F w

    -- the values are those with the stem forced to what it has
    forced_own : (n : ℕ) → n < length t.netlist.nets → V n ≡ values_of t.netlist (second_source t w) (force m (V m)) n
    forced_own n lt = valuation_is t.netlist order net_sound ordered (second_source t w) (force m (V m)) V (λ k in'. elim (cases_eq k m) [
      | inl is ↦ rw (eq-eqb k m is) (ap V is)
      | inr other ↦
          let at : V k ≡ second_driven t F w (driver_of t.netlist k) V k = meets t sound order ordered w F k in' ∙ ap (λ (b : Bool). cond b (slowed v (good_value t w k) (second_driven t F w (driver_of t.netlist k) V k)) (second_driven t F w (driver_of t.netlist k) V k)) (ne_eqb k m other) in
          rw (ne_eqb k m other) (at ∙ stem_driven m v (V m) k V (driver_of t.netlist k))
    ]) n lt

    -- what drives the stem doesn't feel the fault
    drives : second_driven t F w (driver_of t.netlist m) V m ≡ good2 m
    drives =
        let same : second_driven t F w (driver_of t.netlist m) V m ≡ second_driven t F w (driver_of t.netlist m) good2 m = driven_local t w F m V good2 (driver_of t.netlist m) (λ r gate read.
        forced_own r (reads_in_range t.netlist m r net_sound m_lt read)
        ∙ force_outside t.netlist order net_sound ordered (second_source t w) m (V m) r (reads_in_range t.netlist m r net_sound m_lt read) (no_loop t.netlist order net_sound ordered m r m_lt gate read)) in
        same ∙ stem_driven m v Unknown m good2 (driver_of t.netlist m) ∙ free (driver_of t.netlist m)
        ∙ sym (values_of-is t.netlist order (second_source t w) nothing_forced ordered m m_lt)
      where
        free : (d : Driver) → driven t.netlist (second_source t w) (force m Unknown) d good2 m ≡ driven t.netlist (second_source t w) nothing_forced d good2 m
        free Input = refl
        free Flop = refl
        free (Gate kind) = refl

    V_at : V m ≡ slowed v (good_value t w m) (good2 m)
    V_at = meets t sound order ordered w F m m_lt ∙ ap (λ (b : Bool). cond b (slowed v (good_value t w m) (second_driven t F w (driver_of t.netlist m) V m)) (second_driven t F w (driver_of t.netlist m) V m)) (eq-eqb m m refl)
        ∙ ap (slowed v (good_value t w m)) drives

    V_is : (n : ℕ) → n < length t.netlist.nets → V n ≡ values_of t.netlist (second_source t w) (force m (slowed v (good_value t w m) (good2 m))) n
    V_is n lt = forced_own n lt ∙ ap (λ (x : Tri). values_of t.netlist (second_source t w) (force m x) n) V_at

    at_net : (o : ℕ) → o < length t.netlist.nets → (b : Bool) → changes v (good_value t w m) (good2 m) ≡ b → are_opposite (good2 o) (V o) ≡ (b && flip_shows_from t.netlist (second_source t w) m o)
    at_net o lt true made = ap (are_opposite (good2 o)) (V_is o lt ∙ ap (λ (x : Tri). values_of t.netlist (second_source t w) (force m x) o) (made_flips v (good_value t w m) (good2 m) made))
    at_net o lt false unmade = ap (are_opposite (good2 o)) (V_is o lt) ∙ unflipped t.netlist order net_sound ordered (second_source t w) m (slowed v (good_value t w m) (good2 m)) (unmade_stays v (good_value t w m) (good2 m) unmade) o lt

    pub slow_stem_law : (p : Point) → IsPoint t p → frame_fails_at t (fault.Stem m v) w p ≡ (changes v (good_value t w m) (good2 m) && flip_shows_from t.netlist (second_source t w) m (observed_net t p))
    slow_stem_law p is_point =
        let o = observed_net t p in
        let lt = observed_net-in_range t sound p is_point in
        let net = point_pin-net t sound p is_point in
        ap (λ (q : ℕ). are_opposite (second_value t None w q) (V q)) net
        ∙ ap (λ (x : Tri). are_opposite x (V o)) (none_is t sound order ordered w o lt)
        ∙ at_net o lt (changes v (good_value t w m) (good2 m)) refl
