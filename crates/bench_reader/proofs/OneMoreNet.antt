-- The lists of a circuit's first lines, with one more net or one more output.
use Rattle.std.proofs.Common.{◌≡◌, ℕ, zero, suc, ◌+◌, ◌-◌, ◌<◌, ◌≤◌, Bool, cond, List, [], ◌∷◌, ◌++◌, length, get_or, refl, sym, ap, subst, ◌∙◌, inl, inr, arith}
use Rattle.std.specs.Prelude.{filter}
use Rattle.std.specs.List.{range_with_len}
use Rattle.std.proofs.lemmas.Bool.{cases_lt}
use Rattle.std.proofs.lemmas.List.{length-append, get_or_append_left, get_or-append-add}
use Rattle.std.proofs.Math.Seq.{get_or-append_seam}
use Rattle.scan_model.specs.declared.circuit.Net.{Net}
use Rattle.scan_model.specs.declared.circuit.Pin.{Pin}
use Rattle.scan_model.specs.declared.circuit.PinPlace.{PinPlace}
use Rattle.scan_model.specs.declared.circuit.PinPlace.TheVariants.{Operand, Output}
use Rattle.scan_model.specs.Netlist.{Netlist, netlist, no_net, no_pin, net_at, pin_at, driver_of, net_numbers, is_input, is_input_driver, IsOperandCount, IsPlacedAt, HasOnePin}
use Rattle.scan_model.proofs.Orders.{filter_range_more}

-- all that makes a netlist, but that each pin is on one of its nets
pub record IsPart (c : Netlist) : Type 0 where
  pub inputs : c.inputs ≡ filter (is_input c) (net_numbers c)
  pub operand_counts : (n : ℕ) → n < length c.nets → IsOperandCount (driver_of c n) (net_at c n).pin_count
  pub operand_range : (n : ℕ) → n < length c.nets → (net_at c n).first_pin + (net_at c n).pin_count ≤ length c.pins
  pub operand_places : (n i : ℕ) → n < length c.nets → i < (net_at c n).pin_count → (pin_at c ((net_at c n).first_pin + i)).place ≡ Operand n i
  pub pin_places : (p : ℕ) → p < length c.pins → IsPlacedAt c p (pin_at c p).place
  pub output_pins : (k : ℕ) → k < length c.outputs → HasOnePin c k

filter_range_agree : (p q : ℕ → Bool) (a n : ℕ) → ((x : ℕ) → a ≤ x → x < a + n → p x ≡ q x) → filter p (range_with_len a n) ≡ filter q (range_with_len a n)
filter_range_agree p q a zero agree = refl
filter_range_agree p q a (suc n) agree =
    rw (agree a (omega arith) (omega arith)) (ap (λ xs. cond (q a) (a ∷ xs) xs) (filter_range_agree p q (a + 1) n (λ x low high. agree x (omega arith) (omega arith))))

module _ (nets : List Net) (pins more : List Pin) (inputs outputs : List ℕ) (new : Net)
    (first : new.first_pin ≡ length pins) (count : new.pin_count ≡ length more)
    (counted : IsOperandCount new.driver new.pin_count)
    (placed : (i : ℕ) → i < length more → (get_or more i no_pin).place ≡ Operand (length nets) i)
    (part : IsPart (netlist nets pins inputs outputs)) where
  abbrev was : Netlist
  was = netlist nets pins inputs outputs

  abbrev next : Netlist
  next = netlist (nets ++ new ∷ []) (pins ++ more) (inputs ++ cond (is_input_driver new.driver) (length nets ∷ []) []) outputs

  old_net : (n : ℕ) → n < length nets → net_at next n ≡ net_at was n
  old_net n lt = get_or_append_left nets (new ∷ []) no_net n lt

  new_net : net_at next (length nets) ≡ new
  new_net = get_or-append_seam nets new [] no_net

  old_pin : (p : ℕ) → p < length pins → pin_at next p ≡ pin_at was p
  old_pin p lt = get_or_append_left pins more no_pin p lt

  new_place : (i : ℕ) → i < length more → (pin_at next (length pins + i)).place ≡ Operand (length nets) i
  new_place i lt = ap (λ (p : Pin). p.place) (get_or-append-add pins more i no_pin) ∙ placed i lt

  pins_length : length (pins ++ more) ≡ length pins + length more
  pins_length = length-append pins more

  nets_length : length (nets ++ new ∷ []) ≡ length nets + 1
  nets_length = length-append nets (new ∷ [])

  -- what holds of each net and of the new one
  each_net : (P : ℕ → Net → Type 0) → ((n : ℕ) → n < length nets → P n (net_at was n)) → P (length nets) new → (n : ℕ) → n < length (nets ++ new ∷ []) → P n (net_at next n)
  each_net P olds here n lt = elim (cases_lt n (length nets)) [
    | inl old ↦ subst (P n) (sym (old_net n old)) (olds n old)
    | inr past ↦
        let same : length nets ≡ n = omega (arith, nets_length) in
        subst (λ (m : ℕ). P m (net_at next m)) same (subst (P (length nets)) (sym new_net) here)
  ]

  same_inputs : inputs ++ cond (is_input_driver new.driver) (length nets ∷ []) [] ≡ filter (is_input next) (net_numbers next)
  same_inputs =
      let agree : filter (is_input next) (range_with_len 0 (length nets)) ≡ filter (is_input was) (range_with_len 0 (length nets)) =
      filter_range_agree (is_input next) (is_input was) 0 (length nets) (λ x low high. ap (λ (n : Net). is_input_driver n.driver) (old_net x (omega arith))) in
      let last : is_input next (length nets) ≡ is_input_driver new.driver = ap (λ (n : Net). is_input_driver n.driver) new_net in
      ap (λ xs. xs ++ cond (is_input_driver new.driver) (length nets ∷ []) []) (part.inputs ∙ sym agree)
      ∙ ap (λ b. filter (is_input next) (range_with_len 0 (length nets)) ++ cond b (length nets ∷ []) []) (sym last)
      ∙ sym (filter_range_more (is_input next) (length nets))
      ∙ ap (λ n. filter (is_input next) (range_with_len 0 n)) (sym nets_length)

  places : (n i : ℕ) → n < length (nets ++ new ∷ []) → i < (net_at next n).pin_count → (pin_at next ((net_at next n).first_pin + i)).place ≡ Operand n i
  places n i lt few =
      each_net (λ m x. (j : ℕ) → j < x.pin_count → (pin_at next (x.first_pin + j)).place ≡ Operand m j)
      (λ m old j low.
      let in_range : (net_at was m).first_pin + j < length pins = omega (arith, part.operand_range m old) in
      ap (λ (p : Pin). p.place) (old_pin ((net_at was m).first_pin + j) in_range) ∙ part.operand_places m j old low)
      (λ j low. let low' : j < length more = omega (arith, count) in ap (λ (q : ℕ). (pin_at next (q + j)).place) first ∙ new_place j low')
      n lt i few

  still_placed : (p : ℕ) (x : PinPlace) → p < length pins → IsPlacedAt was p x → IsPlacedAt next p x
  still_placed p (Operand n i) lt at =
      let is = old_net n at.0 in
      (omega (arith, at.0, nets_length), rw is at.1, rw is at.2)
  still_placed p (Output k) lt at = (at.0, ap (λ (q : Pin). q.net) (old_pin p lt) ∙ at.1)

  newly_placed : (i : ℕ) → i < length more → IsPlacedAt next (length pins + i) (Operand (length nets) i)
  newly_placed i lt = (omega (arith, nets_length), rw new_net (omega (arith, count)), rw (new_net, first) refl)

  placed_all : (p : ℕ) → p < length (pins ++ more) → IsPlacedAt next p (pin_at next p).place
  placed_all p lt = elim (cases_lt p (length pins)) [
    | inl old ↦ subst (IsPlacedAt next p) (sym (ap (λ (q : Pin). q.place) (old_pin p old))) (still_placed p (pin_at was p).place old (part.pin_places p old))
    | inr past ↦
        let low : p - length pins < length more = omega (arith, pins_length) in
        let same : length pins + (p - length pins) ≡ p = omega arith in
        subst (λ (q : ℕ). IsPlacedAt next q (pin_at next q).place) same (subst (IsPlacedAt next (length pins + (p - length pins))) (sym (new_place (p - length pins) low)) (newly_placed (p - length pins) low))
  ]

  outputs_stay : (k : ℕ) → k < length outputs → HasOnePin next k
  outputs_stay k lt =
      let one = part.output_pins k lt in
      record {
        pin = one.pin;
        in_range = omega (arith, one.in_range, pins_length);
        at_output = ap (λ (q : Pin). q.place) (old_pin one.pin one.in_range) ∙ one.at_output;
        only = λ q in_pins at. elim (cases_lt q (length pins)) [
          | inl old ↦ one.only q old (sym (ap (λ (x : Pin). x.place) (old_pin q old)) ∙ at)
          | inr past ↦
              let low : q - length pins < length more = omega (arith, pins_length) in
              let same : length pins + (q - length pins) ≡ q = omega arith in
              let bad : Operand (length nets) (q - length pins) ≡ Output k = sym (new_place (q - length pins) low) ∙ ap (λ (x : ℕ). (pin_at next x).place) same ∙ at in
              absurd cc
        ];
      }

  -- one more net, with its pins
  pub one_more_net : IsPart next
  one_more_net = record {
    inputs = same_inputs;
    operand_counts = each_net (λ m x. IsOperandCount x.driver x.pin_count) part.operand_counts counted;
    operand_range = each_net (λ m x. x.first_pin + x.pin_count ≤ length (pins ++ more)) (λ m old. omega (arith, part.operand_range m old, pins_length)) (omega (arith, first, count, pins_length));
    operand_places = places;
    pin_places = placed_all;
    output_pins = outputs_stay;
  }
