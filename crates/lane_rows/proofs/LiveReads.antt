-- The nets that operands of gates with a place see, pin by pin.
use Rattle.std.proofs.Common.{◌≡◌, ℕ, ◌+◌, ◌<◌, ◌≤◌, List, [], ◌∷◌, ◌++◌, length, get_or, refl, sym, ap, ◌∙◌, inl, inr, arith}
use Rattle.std.proofs.lemmas.Bool.{cases_eq, cases_lt}
use Rattle.std.proofs.lemmas.List.{get_or_push, get_or_append_left, length_push}
use Rattle.scan_model.specs.Netlist.{Netlist, pin_at}
use Rattle.lane_rows.specs.Wiring.{AreLiveReads, sink_place}
use Rattle.lane_rows.proofs.Written.{one_below}

module _ (c : Netlist) (places : List ℕ) (end : ℕ) where
  pub none_yet : AreLiveReads c places end 0 [] []
  none_yet = record {
    few = omega arith;
    same = refl;
    within = λ i d lt. absurd (omega arith);
    each = λ i lt. absurd (omega arith);
    all = λ p lt live. absurd (omega arith);
  }

  module _ (pin : ℕ) (nets at : List ℕ) (are : AreLiveReads c places end pin nets at) where
    pub passed_over : end ≤ sink_place c places end pin → AreLiveReads c places end (pin + 1) nets at
    passed_over idle = record {
      few = omega (arith, are.few);
      same = are.same;
      within = are.within;
      each = λ i lt. let is = are.each i lt in (is.0, omega (arith, is.1), is.2, is.3, is.4);
      all = λ p lt live. elim (cases_eq p pin) [
        | inl same ↦ absurd (omega (arith, idle, live, ap (sink_place c places end) same))
        | inr other ↦ are.all p (omega (arith, lt, other)) live
      ];
    }

    module _ (net place : ℕ) (net_is : net ≡ (pin_at c pin).net) (place_is : place ≡ sink_place c places end pin) (net_lt : net < length c.nets) (live : place < end) where
      abbrev more : List ℕ
      more = nets ++ net ∷ []

      abbrev more_at : List ℕ
      more_at = at ++ place ∷ []

      long : length more ≡ length nets + 1
      long = length_push nets net

      old_net : (i : ℕ) → i < length nets → get_or nets i 0 ≡ get_or more i 0
      old_net i lt = sym (get_or_append_left nets (net ∷ []) 0 i lt)

      old_place : (i : ℕ) → i < length nets → get_or at i 0 ≡ get_or more_at i 0
      old_place i lt = sym (get_or_append_left at (place ∷ []) 0 i (omega (arith, are.same)))

      last_net : (i : ℕ) → i ≡ length nets → (pin_at c pin).net ≡ get_or more i 0
      last_net i is = sym (get_or_push nets net 0 i (sym is) ∙ net_is)

      last_place : (i : ℕ) → i ≡ length nets → sink_place c places end pin ≡ get_or more_at i 0
      last_place i is = sym (get_or_push at place 0 i (are.same ∙ sym is) ∙ place_is)

      pub added : AreLiveReads c places end (pin + 1) more more_at
      added = record {
        few = omega (arith, long, are.few);
        same = omega (arith, long, length_push at place, are.same);
        within = one_below nets net (length c.nets) net_lt are.within;
        each = λ i lt. elim (cases_lt i (length nets)) [
          | inl before ↦ let is = are.each i before in (is.0, omega (arith, is.1), is.2 ∙ old_net i before, is.3 ∙ old_place i before, omega (arith, is.4, old_place i before))
          | inr last ↦
              let here : i ≡ length nets = omega (arith, lt, long, last) in
              (pin, omega arith, last_net i here, last_place i here, omega (arith, last_place i here, place_is, live))
        ];
        all = λ p lt alive. elim (cases_eq p pin) [
          | inl same ↦ (length nets, omega (arith, long), ap (λ (q : ℕ). (pin_at c q).net) same ∙ last_net (length nets) refl, ap (sink_place c places end) same ∙ last_place (length nets) refl)
          | inr other ↦ let is = are.all p (omega (arith, lt, other)) alive in (is.0, omega (arith, is.1, long), is.2 ∙ old_net is.0 is.1, is.3 ∙ old_place is.0 is.1)
        ];
      }
