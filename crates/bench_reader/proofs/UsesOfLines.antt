-- The uses and the inputs of lines: how many they are, and their nets.
use Rattle.std.proofs.Common.{◌≡◌, ℕ, ◌+◌, Bool, true, false, cond, not, List, [], ◌∷◌, ◌++◌, length, map, fold, Option, Some, None, option_map, Ok, refl, sym, ap, subst, ◌∙◌, arith, append_assoc, append-nil}
use Rattle.std.specs.Prelude.{flat_map}
use Rattle.std.specs.List.{enumerate_from, AllByRecursion, IsDistinct}
use Rattle.std.specs.Str.{bytes_eq}
use Rattle.std.proofs.lemmas.List.{length-map, length-append, map-append}
use Rattle.std.proofs.lemmas.Simd.{map-map}
use Rattle.std.proofs.lemmas.List.Folds.{list_any-append}
use Rattle.std.proofs.lemmas.List.FromFn.{length-enumerate_from}
use Rattle.scan_model.specs.declared.circuit.Net.{Net}
use Rattle.scan_model.specs.declared.circuit.Pin.{Pin}
use Rattle.scan_model.specs.declared.circuit.PinPlace.TheVariants.{Output}
use Rattle.scan_model.specs.Netlist.{netlist}
use Rattle.scan_model.specs.Words.{has_word}
use Rattle.scan_model.specs.TextFaults.{first_fault, refused_or}
use Rattle.scan_model.specs.NetlistLines.{Form, nothing, input, output, definition, no_form}
use Rattle.scan_model.specs.NetlistRules.{nets_of, new_output, outputs_of, pins_of, pins_after, defined_names, forms_of, first_rule, early_fault}
use Rattle.scan_model.specs.NetlistText.{net_number, line_nets, nets_after, line_pins, line_pins_after, inputs_of, circuit_in}
use Rattle.bench_reader.specs.declared.first_round.NetlistDraft.{NetlistDraft}
use Rattle.bench_reader.specs.NetUses.{NamedUse, operand_use, operand_pin, use_views, line_uses, uses_after, inputs_after, use_pin, undefined_use}
use Rattle.bench_reader.specs.NetlistDrafts.{lacks, uses_undefined, first_line, filled_from}
use Rattle.bench_reader.specs.FaultlessLines.{IsRead}
use Rattle.bench_reader.proofs.NamesDiffer.{number_after}
use Rattle.bench_reader.proofs.SecondRound.{in_uses, two_rounds, none_passes}

-- ---- counts

-- a line's pins, counted
pub length-line_pins : (defined os : List (List ℕ)) (f : Form) → length (line_pins defined os f) ≡ length (pins_of os f)
length-line_pins defined os nothing = refl
length-line_pins defined os (input n) = refl
length-line_pins defined os (output n) = length-map (new_output os (output n)) (λ o. record { net = net_number defined o; place = Output (length os) })
length-line_pins defined os (definition n word operands) = length-map (enumerate_from 0 operands) (operand_pin defined (net_number defined n)) ∙ length-enumerate_from 0 operands
length-line_pins defined os no_form = refl

pub length-line_pins_after : (defined os : List (List ℕ)) (fs : List Form) → length (line_pins_after defined os fs) ≡ length (pins_after os fs)
length-line_pins_after defined os [] = refl
length-line_pins_after defined os (f ∷ fs) =
    omega (arith, length-append (line_pins defined os f) (line_pins_after defined (os ++ new_output os f) fs), length-append (pins_of os f) (pins_after (os ++ new_output os f) fs), length-line_pins defined os f, length-line_pins_after defined (os ++ new_output os f) fs)

-- a line's uses are as many as its pins
pub length-line_uses : (line net : ℕ) (os : List (List ℕ)) (f : Form) → length (line_uses line net os f) ≡ length (pins_of os f)
length-line_uses line net os nothing = refl
length-line_uses line net os (input n) = refl
length-line_uses line net os (output n) = length-map (new_output os (output n)) (λ o. record { line = line; name = o; place = Output (length os) })
length-line_uses line net os (definition n word operands) = length-map (enumerate_from 0 operands) (operand_use line net) ∙ length-enumerate_from 0 operands
length-line_uses line net os no_form = refl

pub length-line_nets : (pins : ℕ) (f : Form) → length (line_nets pins f) ≡ length (nets_of f)
length-line_nets pins nothing = refl
length-line_nets pins (input n) = refl
length-line_nets pins (output n) = refl
length-line_nets pins (definition n word operands) = refl
length-line_nets pins no_form = refl

-- ---- one more line

-- the outputs after more lines
abbrev pub outputs_after : List (List ℕ) → List Form → List (List ℕ)
outputs_after os fs = fold (λ outputs f. outputs ++ new_output outputs f) os fs

pub nets_after_push : (os : List (List ℕ)) (pins : ℕ) (fs : List Form) (f : Form) → nets_after os pins (fs ++ f ∷ []) ≡ nets_after os pins fs ++ line_nets (pins + length (pins_after os fs)) f
nets_after_push os pins [] f = let e : pins ≡ pins + 0 = omega arith in append-nil (line_nets pins f) ∙ ap (λ k. line_nets k f) e
nets_after_push os pins (g ∷ gs) f =
    let os' : List (List ℕ) = os ++ new_output os g in
    let pins' : ℕ = pins + length (pins_of os g) in
    let e : pins' + length (pins_after os' gs) ≡ pins + length (pins_of os g ++ pins_after os' gs) = omega (arith, length-append (pins_of os g) (pins_after os' gs)) in
    ap (λ ns. line_nets pins g ++ ns) (nets_after_push os' pins' gs f ∙ ap (λ k. nets_after os' pins' gs ++ line_nets k f) e)
    ∙ sym (append_assoc (line_nets pins g) (nets_after os' pins' gs) _)

pub inputs_after_push : (net : ℕ) (fs : List Form) (f : Form) → inputs_after net (fs ++ f ∷ []) ≡ inputs_after net fs ++ map (λ w. net + length (defined_names fs)) (inputs_of f)
inputs_after_push net [] f = let e : net ≡ net + 0 = omega arith in append-nil (map (λ w. net) (inputs_of f)) ∙ ap (λ k. map (λ w. k) (inputs_of f)) e
inputs_after_push net (g ∷ gs) f =
    let net' : ℕ = net + length (nets_of g) in
    let e : net' + length (defined_names gs) ≡ net + length (nets_of g ++ defined_names gs) = omega (arith, length-append (nets_of g) (defined_names gs)) in
    ap (λ ns. map (λ w. net) (inputs_of g) ++ ns) (inputs_after_push net' gs f ∙ ap (λ k. inputs_after net' gs ++ map (λ w. k) (inputs_of f)) e)
    ∙ sym (append_assoc (map (λ w. net) (inputs_of g)) (inputs_after net' gs) _)

pub uses_after_push : (line net : ℕ) (os : List (List ℕ)) (fs : List Form) (f : Form)
    → uses_after line net os (fs ++ f ∷ []) ≡ uses_after line net os fs ++ line_uses (line + length fs) (net + length (defined_names fs)) (outputs_after os fs) f
uses_after_push line net os [] f =
    let e : line ≡ line + 0 = omega arith in
    let d : net ≡ net + 0 = omega arith in
    append-nil (line_uses line net os f) ∙ ap (λ k. line_uses k net os f) e ∙ ap (λ k. line_uses (line + 0) k os f) d
uses_after_push line net os (g ∷ gs) f =
    let os' : List (List ℕ) = os ++ new_output os g in
    let net' : ℕ = net + length (nets_of g) in
    let e : (line + 1) + length gs ≡ line + length (g ∷ gs) = omega arith in
    let d : net' + length (defined_names gs) ≡ net + length (nets_of g ++ defined_names gs) = omega (arith, length-append (nets_of g) (defined_names gs)) in
    ap (λ us. line_uses line net os g ++ us) (
    uses_after_push (line + 1) net' os' gs f
    ∙ ap (λ k. uses_after (line + 1) net' os' gs ++ line_uses k (net' + length (defined_names gs)) (outputs_after os' gs) f) e
    ∙ ap (λ k. uses_after (line + 1) net' os' gs ++ line_uses (line + length (g ∷ gs)) k (outputs_after os' gs) f) d
    )
    ∙ sym (append_assoc (line_uses line net os g) (uses_after (line + 1) net' os' gs) _)

-- ---- nets by name

module _ (defined : List (List ℕ)) (differ : IsDistinct bytes_eq defined) where
  number : (n : List ℕ) (front back : List (List ℕ)) → defined ≡ front ++ n ∷ back → net_number defined n ≡ length front
  number n front back is = ap (λ ds. net_number ds n) is ∙ number_after front back n (subst (IsDistinct bytes_eq) is differ)

  line_inputs : (f : Form) (front back : List (List ℕ)) → defined ≡ front ++ (nets_of f ++ back) → map (λ w. length front) (inputs_of f) ≡ map (net_number defined) (inputs_of f)
  line_inputs nothing front back is = refl
  line_inputs (input n) front back is = ap (λ k. k ∷ []) (sym (number n front back is))
  line_inputs (output n) front back is = refl
  line_inputs (definition n word operands) front back is = refl
  line_inputs no_form front back is = refl

  -- the inputs of lines, after those that define the names in front
  pub inputs_are : (fs : List Form) (front : List (List ℕ)) → defined ≡ front ++ defined_names fs → inputs_after (length front) fs ≡ map (net_number defined) (flat_map inputs_of fs)
  inputs_are [] front is = refl
  inputs_are (f ∷ fs) front is =
      ap (λ ks. ks ++ inputs_after (length front + length (nets_of f)) fs) (line_inputs f front (defined_names fs) is)
      ∙ ap (λ k. map (net_number defined) (inputs_of f) ++ inputs_after k fs) (sym (length-append front (nets_of f)))
      ∙ ap (λ ks. map (net_number defined) (inputs_of f) ++ ks) (inputs_are fs (front ++ nets_of f) (is ∙ sym (append_assoc front (nets_of f) (defined_names fs))))
      ∙ sym (map-append (net_number defined) (inputs_of f) (flat_map inputs_of fs))

  line_pins_are : (f : Form) (front back : List (List ℕ)) (line : ℕ) (os : List (List ℕ)) → defined ≡ front ++ (nets_of f ++ back) → map (use_pin defined) (line_uses line (length front) os f) ≡ line_pins defined os f
  line_pins_are nothing front back line os is = refl
  line_pins_are (input n) front back line os is = refl
  line_pins_are (output n) front back line os is = go (has_word os n)
    where
      go : (b : Bool) → map (use_pin defined) (map (λ o. record { line = line; name = o; place = Output (length os) }) (cond b [] (n ∷ []))) ≡ map (λ o. record { net = net_number defined o; place = Output (length os) }) (cond b [] (n ∷ []))
      go true = refl
      go false = refl
  line_pins_are (definition n word operands) front back line os is =
      map-map (use_pin defined) (operand_use line (length front)) (enumerate_from 0 operands)
      ∙ ap (λ (k : ℕ). map (operand_pin defined k) (enumerate_from 0 operands)) (sym (number n front back is))
  line_pins_are no_form front back line os is = refl

  -- the pins of lines, after those that define the names in front
  pub pins_are : (fs : List Form) (front : List (List ℕ)) (line : ℕ) (os : List (List ℕ)) → defined ≡ front ++ defined_names fs → map (use_pin defined) (uses_after line (length front) os fs) ≡ line_pins_after defined os fs
  pins_are [] front line os is = refl
  pins_are (f ∷ fs) front line os is =
      let os' : List (List ℕ) = os ++ new_output os f in
      map-append (use_pin defined) (line_uses line (length front) os f) (uses_after (line + 1) (length front + length (nets_of f)) os' fs)
      ∙ ap (λ ps. ps ++ map (use_pin defined) (uses_after (line + 1) (length front + length (nets_of f)) os' fs)) (line_pins_are f front (defined_names fs) line os is)
      ∙ ap (λ k. line_pins defined os f ++ map (use_pin defined) (uses_after (line + 1) k os' fs)) (sym (length-append front (nets_of f)))
      ∙ ap (λ ps. line_pins defined os f ++ ps) (pins_are fs (front ++ nets_of f) (line + 1) os' (is ∙ sym (append_assoc front (nets_of f) (defined_names fs))))

-- ---- the first use of a net that no line defines

module _ (defined : List (List ℕ)) where
  in_operands : (line net k : ℕ) (ns : List (List ℕ)) (us : List NamedUse)
      → undefined_use defined (map (operand_use line net) (enumerate_from k ns) ++ us) ≡ cond (lacks defined ns) (Some line) (undefined_use defined us)
  in_operands line net k [] us = refl
  in_operands line net k (n ∷ ns) us = go (has_word defined n) refl (in_operands line net (k + 1) ns us)
    where
      go : (b : Bool) → has_word defined n ≡ b
          → undefined_use defined (map (operand_use line net) (enumerate_from (k + 1) ns) ++ us) ≡ cond (lacks defined ns) (Some line) (undefined_use defined us)
          → undefined_use defined (map (operand_use line net) (enumerate_from k (n ∷ ns)) ++ us) ≡ cond (lacks defined (n ∷ ns)) (Some line) (undefined_use defined us)
      go true e more = rw e more
      go false e more = rw e refl

  lacks_push : (os : List (List ℕ)) (n : List ℕ) → lacks defined os ≡ false → has_word defined n ≡ true → lacks defined (os ++ n ∷ []) ≡ false
  lacks_push os n none there = list_any-append (λ m. not (has_word defined m)) os (n ∷ []) ∙ rw (none, there) refl

  -- the first undefined use is in the first line that has one, where the outputs so far are defined
  pub first_use_is : (fs : List Form) (line net : ℕ) (os : List (List ℕ)) → lacks defined os ≡ false
      → undefined_use defined (uses_after line net os fs) ≡ first_line (uses_undefined defined) (filled_from line fs)
  first_use_is [] line net os none = refl
  first_use_is (nothing ∷ fs) line net os none = first_use_is fs (line + 1) (net + 0) (os ++ []) (rw append-nil none)
  first_use_is (input n ∷ fs) line net os none = first_use_is fs (line + 1) (net + 1) (os ++ []) (rw append-nil none)
  first_use_is (no_form ∷ fs) line net os none = first_use_is fs (line + 1) (net + 0) (os ++ []) (rw append-nil none)
  first_use_is (definition n word operands ∷ fs) line net os none =
      in_operands line net 0 operands (uses_after (line + 1) (net + 1) (os ++ []) fs)
      ∙ ap (cond (lacks defined operands) (Some line)) (first_use_is fs (line + 1) (net + 1) (os ++ []) (rw append-nil none))
  first_use_is (output n ∷ fs) line net os none = go (has_word os n) refl (has_word defined n) refl (first_use_is fs (line + 1) (net + 0))
    where
      go : (b : Bool) → has_word os n ≡ b → (t : Bool) → has_word defined n ≡ t
          → ((os' : List (List ℕ)) → lacks defined os' ≡ false → undefined_use defined (uses_after (line + 1) (net + 0) os' fs) ≡ first_line (uses_undefined defined) (filled_from (line + 1) fs))
          → undefined_use defined (uses_after line net os (output n ∷ fs)) ≡ first_line (uses_undefined defined) (filled_from line (output n ∷ fs))
      go true e true t more = rw (e, t, append-nil) (more os none)
      go true e false t more = absurd (let there : has_word defined n ≡ true = in_uses defined n os none e in cc)
      go false e true t more = rw (e, t) (more (os ++ n ∷ []) (lacks_push os n none t))
      go false e false t more = rw (e, t) refl

pub all_known : (fs : List Form) → undefined_use (defined_names fs) (uses_after 1 0 [] fs) ≡ None → AllByRecursion (λ f. uses_undefined (defined_names fs) f ≡ false) fs
all_known fs none = none_passes (uses_undefined (defined_names fs)) refl 1 fs (sym (first_use_is (defined_names fs) fs 1 0 [] refl) ∙ none)

-- both rounds, by what the second found among the uses that are kept
pub early_is : (ls : List (List ℕ)) (uses : List NamedUse) (defined : List (List ℕ)) (o : Option ℕ) → refused_or (first_fault (first_rule ls) (length ls)) (uses_after 1 0 [] (forms_of ls)) ≡ Ok uses
    → uses ≡ uses_after 1 0 [] (forms_of ls) → defined ≡ defined_names (forms_of ls) → undefined_use defined uses ≡ o → early_fault ls ≡ option_map (λ n. (n, 7)) o
early_is ls uses defined o first are names is =
    two_rounds ls (uses_after 1 0 [] (forms_of ls)) uses first
    ∙ ap (option_map (λ n. (n, 7))) (sym (first_use_is (defined_names (forms_of ls)) (forms_of ls) 1 0 [] refl) ∙ sym (sym is ∙ rw (are, names) refl))

-- the lists of all lines are those of the circuit
pub lists_are : (draft : NetlistDraft) (fs : List Form) (nets : List Net) (pins : List Pin) (inputs outputs : List ℕ) → IsRead draft fs → nets ≡ draft.nets.items → inputs ≡ draft.inputs.items → pins ≡ map (use_pin draft.defined) (use_views draft.uses.items) → outputs ≡ map (net_number draft.defined) draft.outputs
    → netlist nets pins inputs outputs ≡ circuit_in fs
lists_are draft fs nets pins inputs outputs read nets_kept inputs_kept pins_by_use outputs_by_name =
    let defined : List (List ℕ) = defined_names fs in
    let pins_is : pins ≡ line_pins_after defined [] fs = pins_by_use ∙ rw (read.after.defined, read.after.uses) (pins_are defined read.clean.differ fs [] 1 [] refl) in
    let inputs_is : inputs ≡ map (net_number defined) (flat_map inputs_of fs) = inputs_kept ∙ read.after.inputs ∙ inputs_are defined read.clean.differ fs [] refl in
    let outputs_is : outputs ≡ map (net_number defined) (outputs_of fs) = outputs_by_name ∙ rw (read.after.defined, read.after.outputs) refl in
    ap (λ ns. netlist ns pins inputs outputs) (nets_kept ∙ read.after.nets)
    ∙ ap (λ ps. netlist (nets_after [] 0 fs) ps inputs outputs) pins_is
    ∙ ap (λ is. netlist (nets_after [] 0 fs) (line_pins_after defined [] fs) is outputs) inputs_is
    ∙ ap (λ os. netlist (nets_after [] 0 fs) (line_pins_after defined [] fs) (map (net_number defined) (flat_map inputs_of fs)) os) outputs_is
