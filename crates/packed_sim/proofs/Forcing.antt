-- One net forced in a clean scratch, or two.
use Rattle.std.proofs.Common.{◌≡◌, ◌⊎◌, ℕ, zero, suc, ◌<◌, Bool, true, false, cond, eqb, ◌||◌, List, [], ◌∷◌, length, Some, None, get_or, refl, sym, ap, ◌∙◌, inl, inr, unwrap_or, arith}
use Rattle.std.specs.Prelude.{Contains}
use Rattle.std.proofs.lemmas.Bool.{both_ways, eq-eqb, ne_eqb, or_right}
use Rattle.std.proofs.lemmas.List.Elements.{Contains-get_or}
use Rattle.scan_model.specs.declared.values.Tri.{Tri}
use Rattle.scan_model.specs.Netlist.{Netlist, IsNetlist, driver_of}
use Rattle.scan_model.specs.Walks.{IsEvaluationOrder}
use Rattle.scan_model.specs.NetValue.{Forced, driven, nothing_forced}
use Rattle.scan_model.specs.Force.{force}
use Rattle.scan_model.proofs.counting.OneSite.{force_two}
use Rattle.lane_rows.specs.Planes.{Planes, held}
use Rattle.place_sets.specs.Places.{has_place, room}
use Rattle.lane_rows.specs.Wiring.{sinks_of, IsWired, Covers}
use Rattle.packed_sim.specs.declared.scratch.Scratch.{Scratch}
use Rattle.packed_sim.specs.Rows.{IsClean}
use Rattle.packed_sim.specs.Propagation.{lane_now, FitsScratch, IsWithin, IsOpen, IsSettled, IsSet, AreGood, AreApart, IsFree, IsClosed, IsForced, is_downstream}
use Rattle.packed_sim.proofs.Spreading.{live_values, behind_closed, behind_free, set_fits, set_within, set_keeps_open, clean_open, same_node}

-- ---- one net or two

pub one_of : (net n : ℕ) → Contains (net ∷ []) n → n ≡ net
one_of net n in' = go in'.0 in'.1 in'.2
  where
    go : (i : ℕ) → i < length (net ∷ []) → get_or (net ∷ []) i n ≡ n → n ≡ net
    go zero lt is = sym is
    go (suc i) lt is = absurd (omega arith)

pub two_of : (a b n : ℕ) → Contains (a ∷ b ∷ []) n → (n ≡ a) ⊎ (n ≡ b)
two_of a b n in' = go in'.0 in'.1 in'.2
  where
    go : (i : ℕ) → i < length (a ∷ b ∷ []) → get_or (a ∷ b ∷ []) i n ≡ n → (n ≡ a) ⊎ (n ≡ b)
    go zero lt is = inl (sym is)
    go (suc zero) lt is = inr (sym is)
    go (suc (suc i)) lt is = absurd (omega arith)

pub one_apart : (c : Netlist) (net : ℕ) → AreApart c (net ∷ [])
one_apart c net m n m_in n_in gate inside = one_of net m m_in ∙ sym (one_of net n n_in)

pub one_in_range : (c : Netlist) (net : ℕ) → net < length c.nets → (n : ℕ) → Contains (net ∷ []) n → n < length c.nets
one_in_range c net lt n in' = omega (arith, one_of net n in')

pub two_in_range : (c : Netlist) (a b : ℕ) → a < length c.nets → b < length c.nets → (n : ℕ) → Contains (a ∷ b ∷ []) n → n < length c.nets
two_in_range c a b a_lt b_lt n in' = elim (two_of a b n in') [ inl is ↦ omega (arith, is) | inr is ↦ omega (arith, is) ]

-- all places of the gates that read a net are places of a set with room for the order
pub places_fit : (c : Netlist) (order : List ℕ) (sinks : List (List ℕ)) (good : List Planes) (s : Scratch) (net : ℕ) → IsWired c order sinks → FitsScratch c order good s → net < length c.nets
    → (i d : ℕ) → i < length (sinks_of sinks net) → get_or (sinks_of sinks net) i d < room s.waiting
places_fit c order sinks good s net wired fits lt i d inside =
    let at = wired.places net (get_or (sinks_of sinks net) i d) lt (Contains-get_or (sinks_of sinks net) i d inside) in
    omega (arith, at.0, fits.room)

module _ (c : Netlist) (order : List ℕ) (sound : IsNetlist c) (ordered : IsEvaluationOrder c order) (sinks : List (List ℕ)) (good : List Planes) (wired : IsWired c order sinks) where
  -- ---- one net

  module _ (net : ℕ) (net_lt : net < length c.nets) (row : Planes) (old new : Scratch) (fits : FitsScratch c order good old) (clean : IsClean old.overlay)
      (empty : (k : ℕ) → has_place old.waiting k ≡ false) (is_set : IsSet sinks net row old new) where
    pub force_fits : FitsScratch c order good new
    force_fits = set_fits c order sound ordered sinks good wired net net_lt row old new fits is_set

    pub force_within : IsWithin order (is_downstream c (net ∷ [])) new
    force_within = set_within c order sound ordered sinks good wired net net_lt row old new fits is_set (net ∷ []) (one_in_range c net net_lt) (one_apart c net) (0, omega arith, refl)
        (λ k has. absurd (both_ways (has_place old.waiting k) (empty k) has))

    pub force_closed : IsClosed c (is_downstream c (net ∷ []))
    force_closed = behind_closed c order sound ordered (net ∷ []) (one_in_range c net net_lt) (one_apart c net)

    pub force_free : (v : Tri) → IsFree (is_downstream c (net ∷ [])) (force net v)
    force_free v = behind_free c order sound ordered (net ∷ []) (one_in_range c net net_lt) (one_apart c net) (force net v)
        (λ n away. ap (λ (t : Bool). cond t (Some v) None) (off (eqb n net) away))
        (λ p. refl)
      where
        off : (x : Bool) → (x || false) ≡ false → x ≡ false
        off true e = e
        off false e = refl

    pub force_open : (live : ℕ → Bool) (source : ℕ → Tri) (j : ℕ) → Covers c order sinks live → AreGood c good source j → IsOpen c order good source (force net (held row j)) live j new
    force_open live source j covers right =
        let v = held row j in
        set_keeps_open c order sound ordered sinks good wired net net_lt row old new fits is_set live source source nothing_forced (force net v) j covers
        (λ n other u. same_node c source nothing_forced (force net v) u n (sym (ap (λ (t : Bool). cond t (Some v) None) (ne_eqb n net other))) refl)
        (λ u. ap (λ (t : Bool). unwrap_or (cond t (Some v) None) (driven c source (force net v) (driver_of c net) u net)) (eq-eqb net net refl))
        (clean_open c order sound ordered good old clean live source j right)

    pub force_values : (end : Scratch)
        → ((live behind : ℕ → Bool) (source : ℕ → Tri) (forced : Forced) (j : ℕ) → j < 512 → Covers c order sinks live → IsClosed c behind → IsFree behind forced → IsWithin order behind new
        → IsOpen c order good source forced live j new → IsSettled c good source forced live j end)
        → IsForced c order sinks good (λ j. force net (held row j)) end
    force_values end settles live source j lane covers up right =
        live_values c order sound ordered source (force net (held row j)) live (lane_now end.overlay good j) up
        (settles live (is_downstream c (net ∷ [])) source (force net (held row j)) j lane covers force_closed (force_free (held row j)) force_within (force_open live source j covers right))

  -- ---- two nets

  module _ (a b : ℕ) (a_lt : a < length c.nets) (b_lt : b < length c.nets) (apart : AreApart c (a ∷ b ∷ [])) (row : Planes) (old middle new : Scratch) (fits : FitsScratch c order good old) (clean : IsClean old.overlay)
      (empty : (k : ℕ) → has_place old.waiting k ≡ false) (first : IsSet sinks a row old middle) (second : IsSet sinks b row middle new) where
    pub middle_fits : FitsScratch c order good middle
    middle_fits = set_fits c order sound ordered sinks good wired a a_lt row old middle fits first

    pub pair_fits : FitsScratch c order good new
    pair_fits = set_fits c order sound ordered sinks good wired b b_lt row middle new middle_fits second

    pub pair_within : IsWithin order (is_downstream c (a ∷ b ∷ [])) new
    pair_within = set_within c order sound ordered sinks good wired b b_lt row middle new middle_fits second (a ∷ b ∷ []) (two_in_range c a b a_lt b_lt) apart (1, omega arith, refl)
        (set_within c order sound ordered sinks good wired a a_lt row old middle fits first (a ∷ b ∷ []) (two_in_range c a b a_lt b_lt) apart (0, omega arith, refl)
        (λ k has. absurd (both_ways (has_place old.waiting k) (empty k) has)))

    pub pair_closed : IsClosed c (is_downstream c (a ∷ b ∷ []))
    pair_closed = behind_closed c order sound ordered (a ∷ b ∷ []) (two_in_range c a b a_lt b_lt) apart

    pub pair_free : (v : Tri) → IsFree (is_downstream c (a ∷ b ∷ [])) (force_two a b v)
    pair_free v = behind_free c order sound ordered (a ∷ b ∷ []) (two_in_range c a b a_lt b_lt) apart (force_two a b v)
        (λ n away. ap (λ (t : Bool). cond t (Some v) None) (same (eqb n a) (eqb n b) away))
        (λ p. refl)
      where
        same : (x y : Bool) → (x || (y || false)) ≡ false → (x || y) ≡ false
        same true y e = e
        same false true e = e
        same false false e = refl

    or_false : (x : Bool) → (x || false) ≡ x
    or_false true = refl
    or_false false = refl

    pub pair_open : (live : ℕ → Bool) (source : ℕ → Tri) (j : ℕ) → Covers c order sinks live → AreGood c good source j → IsOpen c order good source (force_two a b (held row j)) live j new
    pair_open live source j covers right =
        let v = held row j in
        set_keeps_open c order sound ordered sinks good wired b b_lt row middle new middle_fits second live source source (force a v) (force_two a b v) j covers
        (λ n other u. same_node c source (force a v) (force_two a b v) u n (ap (λ (t : Bool). cond t (Some v) None) (sym (ap (λ (y : Bool). eqb n a || y) (ne_eqb n b other) ∙ or_false (eqb n a)))) refl)
        (λ u. ap (λ (t : Bool). unwrap_or (cond t (Some v) None) (driven c source (force_two a b v) (driver_of c b) u b)) (or_right (eqb b a) (eqb b b) (eq-eqb b b refl)))
        (force_open a a_lt row old middle fits clean empty first live source j covers right)

    pub pair_values : (end : Scratch)
        → ((live behind : ℕ → Bool) (source : ℕ → Tri) (forced : Forced) (j : ℕ) → j < 512 → Covers c order sinks live → IsClosed c behind → IsFree behind forced → IsWithin order behind new
        → IsOpen c order good source forced live j new → IsSettled c good source forced live j end)
        → IsForced c order sinks good (λ j. force_two a b (held row j)) end
    pair_values end settles live source j lane covers up right =
        live_values c order sound ordered source (force_two a b (held row j)) live (lane_now end.overlay good j) up
        (settles live (is_downstream c (a ∷ b ∷ [])) source (force_two a b (held row j)) j lane covers pair_closed (pair_free (held row j)) pair_within (pair_open live source j covers right))
