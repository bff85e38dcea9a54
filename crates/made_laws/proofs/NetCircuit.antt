-- The circuit of a netlist that is written line by line: each gate reads nets of lower numbers, and names tell cells from gates.
use Rattle.std.proofs.Common.{◌≡◌, ℕ, ◌+◌, ◌<◌, ◌≤◌, true, false, eqb, List, [], ◌∷◌, ◌++◌, length, map, get_or, Some, Ok, refl, sym, ap, subst, ◌∙◌, arith}
use Rattle.std.specs.Prelude.{Contains, IsTrue}
use Rattle.std.specs.List.{AllByRecursion}
use Rattle.std.proofs.lemmas.Bool.{eqb-true}
use Rattle.std.proofs.lemmas.List.{length-map, get_or-map}
use Rattle.std.proofs.lemmas.List.Elements.{All-from_recursion, All-get_or}
use Rattle.std.proofs.lemmas.List.FromFn.{length-range_with_len, get_or-range_with_len}
use Rattle.scan_model.specs.declared.circuit.Driver.TheVariants.{Gate}
use Rattle.scan_model.specs.declared.circuit.Net.{Net}
use Rattle.scan_model.specs.declared.circuit.Pin.{Pin}
use Rattle.scan_model.specs.declared.circuit.PinPlace.{PinPlace}
use Rattle.scan_model.specs.declared.circuit.PinPlace.TheVariants.{Operand, Output}
use Rattle.scan_model.specs.Netlist.{Netlist, no_net, no_pin, net_at, pin_at, reads, operands, is_gate, is_gate_driver}
use Rattle.scan_model.specs.Circuits.{IsCircuit}
use Rattle.scan_model.specs.Walks.{IsWalk, HasLevels}
use Rattle.scan_model.specs.Lines.{text_lines}
use Rattle.scan_model.specs.Words.{has_word}
use Rattle.scan_model.specs.ScanText.{net_names, is_flop_driver, is_flop_net, is_net}
use Rattle.scan_model.specs.NetlistLines.{Form, output, driver_named}
use Rattle.scan_model.specs.NetlistRules.{forms_of, uses_of, new_output, early_fault}
use Rattle.scan_model.specs.NetlistText.{net_number, nets_after, line_pins, line_pins_after, circuit_in, netlist_reading}
use Rattle.bench_reader.specs.FaultlessLines.{HasItsOperands, AreClean}
use Rattle.bench_reader.specs.NetlistDrafts.{uses_undefined, lacks}
use Rattle.bench_reader.proofs.CircuitOfLines.{circuit_is_sound, names_after, length-nets_after}
use Rattle.bench_reader.proofs.ThirdRound.{reads_circuit}
use Rattle.bench_reader.proofs.NamesDiffer.{number_in_range}
use Rattle.made_laws.proofs.Plans.{Plan, an_input, an_output, a_cell, a_gate, line_of, planned, first_byte, IsPlan, AreNumbered, IsKnown, AreKeyed}
use Rattle.made_laws.proofs.NetForms.{line_forms}
use Rattle.made_laws.proofs.Keyed.{keyed_place, keyed_differ, name_at}
use Rattle.made_laws.proofs.NetRounds.{names_in, numbered_keyed, numbered_plans, pins_are_few, nets_are_few, early_none}

-- ---- it is a circuit

plan_counts : (ps : List Plan) → AllByRecursion IsPlan ps → AllByRecursion HasItsOperands (map planned ps)
plan_counts [] is = tt
plan_counts (an_input n ∷ ps) is = ((refl, refl), plan_counts ps is.1)
plan_counts (an_output n ∷ ps) is = ((refl, refl), plan_counts ps is.1)
plan_counts (a_cell n o ∷ ps) is = ((refl, refl), plan_counts ps is.1)
plan_counts (a_gate n w u v ∷ ps) is = ((rw is.0.3.named refl, rw (is.0.3.named, is.0.3.takes_more) refl), plan_counts ps is.1)

plan_short : (ps : List Plan) → AllByRecursion IsPlan ps → AllByRecursion (λ n. length n ≤ 64) (names_in ps)
plan_short [] is = tt
plan_short (an_input n ∷ ps) is = (is.0.short, plan_short ps is.1)
plan_short (an_output n ∷ ps) is = plan_short ps is.1
plan_short (a_cell n o ∷ ps) is = (is.0.0.short, plan_short ps is.1)
plan_short (a_gate n w u v ∷ ps) is = (is.0.0.short, plan_short ps is.1)

none_lacks : (names ns : List (List ℕ)) → AllByRecursion (λ n. has_word names n ≡ true) ns → lacks names ns ≡ false
none_lacks names [] known = refl
none_lacks names (n ∷ ns) known = rw known.0 (none_lacks names ns known.1)

plan_known : (names : List (List ℕ)) (ps : List Plan) → AllByRecursion (IsKnown names) ps → AllByRecursion (λ f. uses_undefined names f ≡ false) (map planned ps)
plan_known names [] known = tt
plan_known names (p ∷ ps) known = (none_lacks names (uses_of (planned p)) known.0.1, plan_known names ps known.1)

-- ---- its nets

-- the driver is a gate where the name begins with `g`, and a cell where it begins with `q`
pub record IsTold (n : Net) : Type 0 where
  pub gate : is_gate_driver n.driver ≡ eqb (first_byte n.name) 103
  pub cell : is_flop_driver n.driver ≡ eqb (first_byte n.name) 113

nets_told : (key : List ℕ → ℕ) (outputs : List (List ℕ)) (pins m : ℕ) (ps : List Plan) (end : ℕ) → AreNumbered key m ps end → AllByRecursion IsTold (nets_after outputs pins (map planned ps))
nets_told key outputs pins m [] end numbered = tt
nets_told key outputs pins m (an_input n ∷ ps) end numbered =
    let first : first_byte n ≡ 105 = numbered.1.1 in
    (record { gate = sym (ap (λ b. eqb b 103) first); cell = sym (ap (λ b. eqb b 113) first) }, nets_told key (outputs ++ []) (pins + 0) (m + 1) ps end numbered.2)
nets_told key outputs pins m (an_output n ∷ ps) end numbered = nets_told key (outputs ++ new_output outputs (output n)) (pins + length (new_output outputs (output n))) (m + 0) ps end numbered.2
nets_told key outputs pins m (a_cell n o ∷ ps) end numbered =
    let first : first_byte n ≡ 113 = numbered.1.1 in
    (record { gate = sym (ap (λ b. eqb b 103) first); cell = sym (ap (λ b. eqb b 113) first) }, nets_told key (outputs ++ []) (pins + 1) (m + 1) ps end numbered.2)
nets_told key outputs pins m (a_gate n w u v ∷ ps) end numbered =
    let first : first_byte n ≡ 103 = numbered.1.1 in
    let named : driver_named w ≡ Some (Gate numbered.0.3.kind) = numbered.0.3.named in
    (record { gate = rw named (sym (ap (λ b. eqb b 103) first)); cell = rw named (sym (ap (λ b. eqb b 113) first)) }, nets_told key (outputs ++ []) (pins + 2) (m + 1) ps end numbered.2)

-- ---- its pins

-- an operand of a net whose name begins with `g` is a net of a lower number
abbrev IsLower : List (List ℕ) → ℕ → PinPlace → Type 0
IsLower names net (Operand n i) = first_byte (get_or names n []) ≡ 103 → net < n
IsLower names net (Output k) = Unit {0}

abbrev Falls : List (List ℕ) → Pin → Type 0
Falls names p = IsLower names p.net p.place

falls_append : (names : List (List ℕ)) (xs ys : List Pin) → AllByRecursion (Falls names) xs → AllByRecursion (Falls names) ys → AllByRecursion (Falls names) (xs ++ ys)
falls_append names [] ys a b = b
falls_append names (x ∷ xs) ys a b = (a.0, falls_append names xs ys a.1 b)

output_falls : (names outputs ns : List (List ℕ)) → AllByRecursion (Falls names) (map (λ o. record { net = net_number names o; place = Output (length outputs) }) ns)
output_falls names outputs [] = tt
output_falls names outputs (n ∷ ns) = (tt, output_falls names outputs ns)

module _ (key : List ℕ → ℕ) (names : List (List ℕ)) (keyed : AreKeyed key 0 names) where
  number_is : (n : List ℕ) → has_word names n ≡ true → net_number names n ≡ key n
  number_is n there = omega (arith, keyed_place key 0 names n keyed there)

  pins_fall : (outputs : List (List ℕ)) (m : ℕ) (ps : List Plan) (end : ℕ) → AreNumbered key m ps end → AllByRecursion (IsKnown names) ps → AllByRecursion (Falls names) (line_pins_after names outputs (map planned ps))
  pins_fall outputs m [] end numbered known = tt
  pins_fall outputs m (an_input n ∷ ps) end numbered known = pins_fall (outputs ++ []) (m + 1) ps end numbered.2 known.1
  pins_fall outputs m (an_output n ∷ ps) end numbered known =
      falls_append names (line_pins names outputs (output n)) _ (output_falls names outputs (new_output outputs (output n)))
      (pins_fall (outputs ++ new_output outputs (output n)) (m + 0) ps end numbered.2 known.1)
  pins_fall outputs m (a_cell n o ∷ ps) end numbered known =
      let name : get_or names (net_number names n) [] ≡ n = name_at names n known.0.0.0 in
      let other : first_byte (get_or names (net_number names n) []) ≡ 113 = ap first_byte name ∙ numbered.1.1 in
      ((λ gate. absurd (omega arith)), pins_fall (outputs ++ []) (m + 1) ps end numbered.2 known.1)
  pins_fall outputs m (a_gate n w u v ∷ ps) end numbered known =
      let at : net_number names n ≡ m = number_is n known.0.0.0 ∙ numbered.1.0 in
      let first : net_number names u ≡ key u = number_is u known.0.1.0 in
      let second : net_number names v ≡ key v = number_is v known.0.1.1.0 in
      let below_first : key u < m = numbered.1.2 in
      let below_second : key v < m = numbered.1.3 in
      ((λ gate. omega arith), ((λ gate. omega arith), pins_fall (outputs ++ []) (m + 1) ps end numbered.2 known.1))

-- ---- the circuit of lines

module _ (key : List ℕ → ℕ) (ps : List Plan) (end : ℕ) (few : length ps ≤ 60000) (numbered : AreNumbered key 0 ps end) (known : AllByRecursion (IsKnown (names_in ps)) ps) where
  abbrev fs : List Form
  fs = map planned ps

  abbrev names : List (List ℕ)
  names = names_in ps

  pub keyed : AreKeyed key 0 names
  keyed = (numbered_keyed key 0 ps end numbered).0

  plans : AllByRecursion IsPlan ps
  plans = numbered_plans key 0 ps end numbered

  clean : AreClean fs
  clean = record {
    counts = plan_counts ps plans;
    differ = keyed_differ key 0 names keyed;
    short = All-from_recursion (λ (n : List ℕ). length n ≤ 64) names (plan_short ps plans);
  }

  pub circuit : IsCircuit (circuit_in fs)
  circuit = circuit_is_sound fs clean (plan_known names ps known) (omega (arith, nets_are_few ps)) (omega (arith, pins_are_few [] ps))

  pub names_are : net_names (circuit_in fs).nets ≡ names
  names_are = names_after [] 0 fs

  told : (n : ℕ) → n < length (circuit_in fs).nets → IsTold (net_at (circuit_in fs) n)
  told n lt = All-get_or IsTold (circuit_in fs).nets n no_net lt (All-from_recursion IsTold (circuit_in fs).nets (nets_told key [] 0 0 ps end numbered))

  name_of : (n : ℕ) → n < length (circuit_in fs).nets → get_or names n [] ≡ (net_at (circuit_in fs) n).name
  name_of n lt = ap (λ (ns : List (List ℕ)). get_or ns n []) (sym names_are) ∙ get_or-map (λ (n : Net). n.name) (circuit_in fs).nets n no_net [] lt

  reads_lower : (g h : ℕ) → g < length (circuit_in fs).nets → IsTrue (is_gate (circuit_in fs) g) → Contains (reads (circuit_in fs) g) h → h < g
  reads_lower g h lt gate read =
      let c : Netlist = circuit_in fs in
      let first : ℕ = (net_at c g).first_pin in
      let count : ℕ = (net_at c g).pin_count in
      let k : ℕ = read.0 in
      let kl : k < count = omega (arith, read.1, length-map (operands c g) (λ p. (pin_at c p).net), length-range_with_len first count) in
      let in_range : k < length (operands c g) = omega (arith, length-range_with_len first count) in
      let p : ℕ = first + k in
      let net : (pin_at c p).net ≡ h =
      ap (λ (q : ℕ). (pin_at c q).net) (sym (get_or-range_with_len first count k 0 kl)) ∙ sym (get_or-map (λ (q : ℕ). (pin_at c q).net) (operands c g) k 0 h in_range) ∙ read.2 in
      let below : p < length c.pins = omega (arith, circuit.netlist.operand_range g lt) in
      let place : (pin_at c p).place ≡ Operand g k = circuit.netlist.operand_places g k lt kl in
      let falls : Falls names (pin_at c p) = All-get_or (Falls names) c.pins p no_pin below (All-from_recursion (Falls names) c.pins (pins_fall key names keyed [] 0 ps end numbered known)) in
      let lower : IsLower names (pin_at c p).net (Operand g k) = subst (λ (x : PinPlace). IsLower names (pin_at c p).net x) place falls in
      let first_is : first_byte (get_or names g []) ≡ 103 = ap first_byte (name_of g lt) ∙ eqb-true (first_byte (net_at c g).name) 103 (sym (told g lt).gate ∙ gate) in
      omega (arith, lower first_is)

  short_walk : (g : ℕ) (gs : List ℕ) → g < length (circuit_in fs).nets → IsWalk (circuit_in fs) (g ∷ gs) → length gs ≤ g
  short_walk g [] lt walk = omega arith
  short_walk g (h ∷ gs) lt walk = let lower : h < g = reads_lower g h lt walk.0 walk.1 in omega (arith, short_walk h gs (omega arith) walk.2)

  levels : HasLevels (circuit_in fs)
  levels g lt gate gs walk = omega (arith, short_walk g gs lt walk)

  -- what a text of these lines stands for
  pub netlist_read : (bytes : List ℕ) → text_lines bytes ≡ map line_of ps → netlist_reading bytes ≡ Ok (circuit_in fs)
  netlist_read bytes lines =
      let forms : forms_of (text_lines bytes) ≡ fs = ap forms_of lines ∙ line_forms ps plans in
      reads_circuit bytes (ap early_fault lines ∙ early_none key ps end few numbered known) (subst (λ (gs : List Form). HasLevels (circuit_in gs)) (sym forms) levels)
      ∙ ap (λ (gs : List Form). Ok (circuit_in gs)) forms

  -- a name that a line defines is that of a net, and of a cell where it begins with `q`
  pub net_there : (w : List ℕ) → has_word names w ≡ true → is_net (circuit_in fs).nets w ≡ true
  net_there w there = ap (λ (ns : List (List ℕ)). has_word ns w) names_are ∙ there

  pub cell_there : (w : List ℕ) → has_word names w ≡ true → first_byte w ≡ 113 → is_flop_net (circuit_in fs).nets w ≡ true
  cell_there w there first =
      let c : Netlist = circuit_in fs in
      let n : ℕ = net_number names w in
      let lt : n < length c.nets = omega (arith, number_in_range names w there, length-nets_after fs) in
      let name : (net_at c n).name ≡ w = sym (name_of n lt) ∙ name_at names w there in
      ap (λ (ns : List (List ℕ)). is_flop_driver (get_or c.nets (net_number ns w) no_net).driver) names_are ∙ (told n lt).cell ∙ ap (λ (b : ℕ). eqb b 113) (ap first_byte name ∙ first)

  -- its number
  pub number_there : (w : List ℕ) → has_word names w ≡ true → net_number names w ≡ key w
  number_there w there = number_is key names keyed w there
