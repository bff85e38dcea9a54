-- A point is seen by each compact point downstream of it, and by compact points alone.
use Rattle.std.proofs.Common.{◌≡◌, ℕ, zero, suc, ◌+◌, ◌-◌, ◌<◌, true, eqb, ltb, List, [], ◌∷◌, length, map, get_or, refl, sym, ap, subst, ◌∙◌, inl, inr, arith}
use Rattle.std.specs.Prelude.{All, Contains}
use Rattle.std.proofs.lemmas.Bool.{cases_Bool, eq-eqb, eqb-true, ltb-true}
use Rattle.std.proofs.lemmas.List.{length-map, get_or-map}
use Rattle.std.proofs.lemmas.List.Elements.{All-cons, All-nil, All-map, All-weaker, Contains-append_cases}
use Rattle.std.proofs.lemmas.List.Folds.{Any-from_list_any, list_any_at}
use Rattle.scan_model.specs.declared.parts.Point.{Point}
use Rattle.scan_model.specs.declared.parts.Point.TheVariants.{Output, Cell}
use Rattle.scan_model.specs.ScanTest.{ScanTest, IsPoint}
use Rattle.scan_model.proofs.Orders.{filter_range_all}
use Rattle.fail_logs.specs.BitNumbers.{place_in}
use Rattle.fail_logs.specs.FrameFacts.{ArePoints, point_among}
use Rattle.fail_logs.proofs.TestFrame.{cells_at}
use Rattle.fault_effects.proofs.NetPoints.{filtered}
use Rattle.compact_points.specs.Channels.{Compactor, IsCompactorOf, no_channel, channel_at, chain_length, cycles_of, greatest}
use Rattle.compact_points.specs.Compaction.{cell_shown, cells_shown, members}
use Rattle.compact_points.specs.CompactPoints.{IsThere}
use Rattle.compact_points.proofs.PointsThere.{point_is_there}
use Rattle.chain_compactor.specs.Flips.{members_at}
use Rattle.chain_compactor.specs.ObservationPoints.{has_chain, channels_of, cycle_places, seeing}
use Rattle.chain_compactor.proofs.CompactOrder.{greatest-above, points_are}

only_one : {X : Type 0} (a x : X) → Contains (a ∷ []) x → x ≡ a
only_one a x has = go has.0 has.1 has.2
  where
    go : (i : ℕ) → i < length (a ∷ []) → get_or (a ∷ []) i x ≡ x → x ≡ a
    go zero lt is = sym is
    go (suc i) lt is = absurd (omega arith)

contains_map : (f : ℕ → ℕ) (xs : List ℕ) (x : ℕ) → Contains xs x → Contains (map f xs) (f x)
contains_map f xs x has = (has.0, omega (arith, length-map xs f, has.1), get_or-map f xs has.0 x (f x) has.1 ∙ ap f has.2)

-- a cell that a chain shows in a cycle
record IsShownBy (t : ScanTest) (u : ℕ) (hs : List ℕ) (p : Point) : Type 0 where
  chain : ℕ
  among : Contains hs chain
  shows : u < chain_length t chain
  is : p ≡ Cell chain (chain_length t chain - 1 - u)

one_shown : (t : ScanTest) (u h : ℕ) (p : Point) → Contains (cell_shown t u h) p → (u < chain_length t h) × (p ≡ Cell h (chain_length t h - 1 - u))
one_shown t u h p has = elim (cases_Bool (ltb u (chain_length t h))) [
  | inl shows ↦ (ltb-true u (chain_length t h) shows, only_one (Cell h (chain_length t h - 1 - u)) p (rw shows at has))
  | inr not_there ↦ absurd (let none : Contains [] p = rw not_there at has in omega (arith, none.1))
]

contains_later : (h g : ℕ) (hs : List ℕ) → Contains hs g → Contains (h ∷ hs) g
contains_later h g hs has = (suc has.0, omega (arith, has.1), has.2)

shown_by : (t : ScanTest) (u : ℕ) (hs : List ℕ) (p : Point) → Contains (cells_shown t u hs) p → IsShownBy t u hs p
shown_by t u [] p has = absurd (omega (arith, has.1))
shown_by t u (h ∷ hs) p has = elim (Contains-append_cases (cell_shown t u h) (cells_shown t u hs) p has) [
  | inl here ↦ let one = one_shown t u h p here in record { chain = h; among = (0, omega arith, refl); shows = one.0; is = one.1 }
  | inr later ↦ let rest = shown_by t u hs p later in record { chain = rest.chain; among = contains_later h rest.chain hs rest.among; shows = rest.shows; is = rest.is }
]

has_chain-of : (hs : List ℕ) (h : ℕ) → Contains hs h → has_chain hs h ≡ true
has_chain-of hs h has = list_any_at (λ g. eqb g h) hs has.0 h has.1 (eq-eqb (get_or hs has.0 h) h has.2)

of_has_chain : (hs : List ℕ) (h : ℕ) → has_chain hs h ≡ true → Contains hs h
of_has_chain hs h is =
    let at = Any-from_list_any (λ g. eqb g h) hs is in
    let same : at.1 ≡ h = eqb-true at.1 h at.4 in
    subst (Contains hs) same (at.0, at.2, at.3)

module _ (t : ScanTest) (c : Compactor) (made : IsCompactorOf t c) where
  abbrev cycles : List ℕ
  cycles = map (cycles_of t) c.channels

  are : ArePoints (length t.netlist.outputs) cycles c.points
  are = rw made.points (points_are (length t.netlist.outputs) cycles)

  abbrev place_of : ℕ → ℕ → ℕ
  place_of x u = place_in (cycle_places t c) x u

  placed : (x u : ℕ) → u < get_or cycles x 0 → (place_of x u < length c.points) × (get_or c.points (place_of x u) (Output 0) ≡ Cell x u)
  placed = cells_at (length t.netlist.outputs) cycles c.points are

  -- a channel shows something as long as each of its chains does
  in_cycles : (x h u : ℕ) → x < length c.channels → Contains (channel_at c.channels x).chains h → u < chain_length t h → u < get_or cycles x 0
  in_cycles x h u x_lt has lt =
      let hs = (channel_at c.channels x).chains in
      let count : get_or cycles x 0 ≡ greatest (map (chain_length t) hs) = get_or-map (cycles_of t) c.channels x no_channel 0 x_lt in
      let own : get_or (map (chain_length t) hs) has.0 0 ≡ chain_length t h = get_or-map (chain_length t) hs has.0 h 0 has.1 ∙ ap (chain_length t) has.2 in
      omega (arith, count, own, greatest-above (map (chain_length t) hs) has.0 (omega (arith, length-map hs (chain_length t), has.1)))

  module _ (q : ℕ) (lt : q < length c.points) where
    by_channel : (x u : ℕ) (p : Point) → point_among c.points q ≡ Cell x u → x < length c.channels → IsShownBy t u (channel_at c.channels x).chains p → Contains (seeing t c p) q
    by_channel x u p at x_lt shown =
        let h = shown.chain in
        let n = chain_length t h in
        let place = placed x u (in_cycles x h u x_lt shown.among shown.shows) in
        let here : place_of x u ≡ q = are.differ (place_of x u) q place.0 lt (place.1 ∙ sym at) in
        let back : n - 1 - (n - 1 - u) ≡ u = omega (arith, shown.shows) in
        let channel : Contains (channels_of c h) x = filter_range_all (λ y. has_chain (channel_at c.channels y).chains h) 0 (length c.channels) x (omega arith) (omega (arith, x_lt)) (has_chain-of (channel_at c.channels x).chains h shown.among) in
        let f : ℕ → ℕ = λ y. place_in (cycle_places t c) y (n - 1 - (n - 1 - u)) in
        subst (λ (s : Point). Contains (seeing t c s) q) (sym shown.is)
        (subst (Contains (map f (channels_of c h))) (ap (λ (v : ℕ). place_in (cycle_places t c) x v) back ∙ here) (contains_map f (channels_of c h) x channel))

    by_point : (s p : Point) → point_among c.points q ≡ s → IsThere t c s → Contains (members t c s) p → Contains (seeing t c p) q
    by_point (Output k) p at there has =
        let lead = are.outputs_first k there in
        subst (λ (s : Point). Contains (seeing t c s) q) (sym (only_one (Output k) p has)) (0, omega arith, are.differ k q lead.0 lt (lead.1 ∙ sym at))
    by_point (Cell x u) p at there has = by_channel x u p at there (shown_by t u (channel_at c.channels x).chains p has)

    pub seen : (p : Point) → Contains (members_at t c q) p → Contains (seeing t c p) q
    seen p has = by_point (point_among c.points q) p refl (point_is_there t c made q lt) has

  pub seen_are_places : (p : Point) → IsPoint t p → All (λ q. q < length c.points) (seeing t c p)
  seen_are_places (Output k) is = All-cons (λ q. q < length c.points) k [] (are.outputs_first k is).0 (All-nil (λ q. q < length c.points))
  seen_are_places (Cell h i) is =
      let n = chain_length t h in
      All-map (λ q. q < length c.points) (λ x. place_of x (n - 1 - i)) (channels_of c h)
      (All-weaker (λ x. (x < 0 + length c.channels) × (has_chain (channel_at c.channels x).chains h ≡ true)) (λ x. place_of x (n - 1 - i) < length c.points)
      (λ x both. (placed x (n - 1 - i) (in_cycles x h (n - 1 - i) (omega (arith, both.0)) (of_has_chain (channel_at c.channels x).chains h both.1) (omega (arith, is.1)))).0)
      (channels_of c h) (filtered (λ x. has_chain (channel_at c.channels x).chains h) 0 (length c.channels)))
