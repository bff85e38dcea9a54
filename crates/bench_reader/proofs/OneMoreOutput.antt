-- The lists of a circuit's first lines, with one more output.
use Rattle.std.proofs.Common.{◌≡◌, ℕ, ◌+◌, ◌<◌, List, [], ◌∷◌, ◌++◌, length, sym, ap, subst, ◌∙◌, inl, inr, arith}
use Rattle.std.proofs.lemmas.Bool.{cases_lt}
use Rattle.std.proofs.lemmas.List.{length-append, get_or_append_left}
use Rattle.std.proofs.Math.Seq.{get_or-append_seam}
use Rattle.scan_model.specs.declared.circuit.Net.{Net}
use Rattle.scan_model.specs.declared.circuit.Pin.{Pin}
use Rattle.scan_model.specs.declared.circuit.PinPlace.{PinPlace}
use Rattle.scan_model.specs.declared.circuit.PinPlace.TheVariants.{Operand, Output}
use Rattle.scan_model.specs.Netlist.{Netlist, netlist, no_pin, net_at, pin_at, IsPlacedAt, HasOnePin}
use Rattle.bench_reader.proofs.OneMoreNet.{IsPart}

module _ (nets : List Net) (pins : List Pin) (inputs outputs : List ℕ) (net : ℕ) (part : IsPart (netlist nets pins inputs outputs)) where
  abbrev was : Netlist
  was = netlist nets pins inputs outputs

  abbrev new : Pin
  new = record { net = net; place = Output (length outputs) }

  abbrev next : Netlist
  next = netlist nets (pins ++ new ∷ []) inputs (outputs ++ net ∷ [])

  old_pin : (p : ℕ) → p < length pins → pin_at next p ≡ pin_at was p
  old_pin p lt = get_or_append_left pins (new ∷ []) no_pin p lt

  new_pin : pin_at next (length pins) ≡ new
  new_pin = get_or-append_seam pins new [] no_pin

  pins_length : length (pins ++ new ∷ []) ≡ length pins + 1
  pins_length = length-append pins (new ∷ [])

  outputs_length : length (outputs ++ net ∷ []) ≡ length outputs + 1
  outputs_length = length-append outputs (net ∷ [])

  still_placed : (p : ℕ) (x : PinPlace) → p < length pins → IsPlacedAt was p x → IsPlacedAt next p x
  still_placed p (Operand n i) lt at = at
  still_placed p (Output k) lt at = (
    omega (arith, at.0, outputs_length),
    ap (λ (q : Pin). q.net) (old_pin p lt) ∙ at.1 ∙ sym (get_or_append_left outputs (net ∷ []) 0 k at.0),
  )

  newly_placed : IsPlacedAt next (length pins) (Output (length outputs))
  newly_placed = (omega (arith, outputs_length), ap (λ (q : Pin). q.net) new_pin ∙ sym (get_or-append_seam outputs net [] 0))

  placed_all : (p : ℕ) → p < length (pins ++ new ∷ []) → IsPlacedAt next p (pin_at next p).place
  placed_all p lt = elim (cases_lt p (length pins)) [
    | inl old ↦ subst (IsPlacedAt next p) (sym (ap (λ (q : Pin). q.place) (old_pin p old))) (still_placed p (pin_at was p).place old (part.pin_places p old))
    | inr past ↦
        let same : length pins ≡ p = omega (arith, pins_length) in
        subst (λ (q : ℕ). IsPlacedAt next q (pin_at next q).place) same (subst (IsPlacedAt next (length pins)) (sym (ap (λ (q : Pin). q.place) new_pin)) newly_placed)
  ]

  old_output : (k : ℕ) → k < length outputs → HasOnePin next k
  old_output k lt =
      let one = part.output_pins k lt in
      record {
        pin = one.pin;
        in_range = omega (arith, one.in_range, pins_length);
        at_output = ap (λ (q : Pin). q.place) (old_pin one.pin one.in_range) ∙ one.at_output;
        only = λ q in_pins at. elim (cases_lt q (length pins)) [
          | inl old ↦ one.only q old (sym (ap (λ (x : Pin). x.place) (old_pin q old)) ∙ at)
          | inr past ↦
              let same : length pins ≡ q = omega (arith, pins_length) in
              let bad : Output (length outputs) ≡ Output k = sym (ap (λ (x : Pin). x.place) new_pin) ∙ ap (λ (x : ℕ). (pin_at next x).place) same ∙ at in
              let number : length outputs ≡ k = cc in
              absurd (omega arith)
        ];
      }

  -- no earlier pin is that of the new output
  no_earlier : (q : ℕ) → q < length pins → (pin_at was q).place ≡ Output (length outputs) → length outputs < length outputs
  no_earlier q lt at = (let P : PinPlace → Type 0 = λ x. IsPlacedAt was q x in let there : IsPlacedAt was q (Output (length outputs)) = subst P at (part.pin_places q lt) in there.0)

  new_output : HasOnePin next (length outputs)
  new_output = record {
    pin = length pins;
    in_range = omega (arith, pins_length);
    at_output = ap (λ (q : Pin). q.place) new_pin;
    only = λ q in_pins at. elim (cases_lt q (length pins)) [
      | inl old ↦ absurd (omega (arith, no_earlier q old (sym (ap (λ (x : Pin). x.place) (old_pin q old)) ∙ at)))
      | inr past ↦ omega (arith, pins_length)
    ];
  }

  each_output : (k : ℕ) → k < length (outputs ++ net ∷ []) → HasOnePin next k
  each_output k lt = elim (cases_lt k (length outputs)) [
    | inl old ↦ old_output k old
    | inr past ↦ let same : length outputs ≡ k = omega (arith, outputs_length) in subst (HasOnePin next) same new_output
  ]

  -- one more output, with its pin
  pub one_more_output : IsPart next
  one_more_output = record {
    inputs = part.inputs;
    operand_counts = part.operand_counts;
    operand_range = λ n lt. omega (arith, part.operand_range n lt, pins_length);
    operand_places = λ n i lt few.
        let in_range : (net_at was n).first_pin + i < length pins = omega (arith, part.operand_range n lt) in
        ap (λ (p : Pin). p.place) (old_pin ((net_at was n).first_pin + i) in_range) ∙ part.operand_places n i lt few;
    pin_places = placed_all;
    output_pins = each_output;
  }
