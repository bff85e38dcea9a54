-- Rule 8: the line of the least net whose backward walk does not end.
use Rattle.std.proofs.Common.{◌≡◌, ℕ, suc, ◌+◌, ◌-◌, ◌<◌, ◌≤◌, Bool, true, false, not, ◌||◌, List, [], ◌∷◌, ◌++◌, length, get_or, Option, Some, None, Ok, Err, refl, sym, ap, subst, ◌∙◌, inl, inr, arith, append_assoc}
use Rattle.std.specs.List.{list_any, IsDistinct}
use Rattle.std.specs.Str.{bytes_eq}
use Rattle.std.proofs.lemmas.Bool.{cases_lt}
use Rattle.std.proofs.lemmas.List.{length-append, length-map, get_or_past}
use Rattle.scan_model.specs.declared.circuit.Net.{Net}
use Rattle.scan_model.specs.Netlist.{Netlist, no_net, is_gate, is_gate_driver}
use Rattle.scan_model.specs.Walks.{HasLevels, IsLeastWithoutLevel, has_level}
use Rattle.scan_model.specs.Lines.{text_lines}
use Rattle.scan_model.specs.TextFaults.{lowest, or_else, fault_from, first_fault, refused_or}
use Rattle.scan_model.specs.declared.rules.TheConstants.{WITHOUT_LEVEL}
use Rattle.scan_model.specs.NetlistLines.{Form, nothing, input, output, definition, no_form, form_of}
use Rattle.scan_model.specs.NetlistRules.{forms_of, form_at, nets_of, defined_names, early_fault}
use Rattle.scan_model.specs.NetlistText.{net_number, circuit_in, circuit_of, third_rule, netlist_reading}
use Rattle.scan_model.proofs.FaultSteps.{fault_from_none}
use Rattle.scan_model.proofs.LevelTests.{test-from_gate_level, test-from_no_level}
use Rattle.bench_reader.specs.NetlistDrafts.{net_lines_from}
use Rattle.bench_reader.proofs.NamesDiffer.{number_after}
use Rattle.bench_reader.proofs.CircuitOfLines.{length-nets_after}

no_gate_past : (c : Netlist) (g : ℕ) → length c.nets ≤ g → is_gate c g ≡ false
no_gate_past c g past = ap (λ (n : Net). is_gate_driver n.driver) (get_or_past c.nets g no_net past)

level_everywhere : (c : Netlist) → HasLevels c → (g : ℕ) → has_level c g ≡ true
level_everywhere c levels g = test-from_gate_level c g (λ gate. elim (cases_lt g (length c.nets)) [
  | inl lt ↦ levels g lt gate
  | inr past ↦ absurd (let none : is_gate c g ≡ false = no_gate_past c g past in cc)
])

none_without : (c : Netlist) (number : List ℕ → ℕ) (ns : List (List ℕ)) → ((g : ℕ) → has_level c g ≡ true) → list_any (λ n. not (has_level c (number n))) ns ≡ false
none_without c number [] level = refl
none_without c number (n ∷ ns) level = rw (level (number n)) (none_without c number ns level)

no_level_fault : (ls : List (List ℕ)) → HasLevels (circuit_in (forms_of ls)) → first_fault (third_rule ls) (length ls) ≡ None
no_level_fault ls levels =
    let fs : List Form = forms_of ls in
    fault_from_none (third_rule ls) 0 (length ls) (λ k low high.
    ap (λ b. lowest ((WITHOUT_LEVEL, b) ∷ [])) (none_without (circuit_in fs) (net_number (defined_names fs)) (nets_of (form_at fs k)) (level_everywhere (circuit_in fs) levels)))

module _ (defined : List (List ℕ)) (differ : IsDistinct bytes_eq defined) (fails : ℕ → Bool) (net : ℕ)
    (here : fails net ≡ true) (before : (m : ℕ) → m < net → fails m ≡ false) (in_range : net < length defined) (rule : ℕ → Option ℕ) where
  abbrev breaks_at : Form → Bool
  breaks_at f = list_any (λ n. fails (net_number defined n)) (nets_of f)

  -- a line that defines the net after those before
  at_net : (w : List ℕ) (front back : List (List ℕ)) (a count : ℕ) (later : List ℕ) → defined ≡ front ++ w ∷ back → length front ≤ net
      → rule a ≡ lowest ((WITHOUT_LEVEL, fails (net_number defined w) || false) ∷ [])
      → (length (front ++ w ∷ []) ≤ net → fault_from rule (a + 1) count ≡ Some (get_or later (net - length (front ++ w ∷ [])) 0, 8))
      → fault_from rule a (suc count) ≡ Some (get_or ((a + 1) ∷ later) (net - length front) 0, 8)
  at_net w front back a count later names le is more =
      let number : net_number defined w ≡ length front = ap (λ ds. net_number ds w) names ∙ number_after front back w (subst (IsDistinct bytes_eq) names differ) in
      let is' : rule a ≡ lowest ((WITHOUT_LEVEL, fails (length front) || false) ∷ []) = is ∙ ap (λ m. lowest ((WITHOUT_LEVEL, fails m || false) ∷ [])) number in
      elim (cases_lt (length front) net) [
        | inl lt ↦
            let size : length (front ++ w ∷ []) ≡ length front + 1 = length-append front (w ∷ []) in
            let past : rule a ≡ None = is' ∙ ap (λ b. lowest ((WITHOUT_LEVEL, b || false) ∷ [])) (before (length front) lt) in
            let place : net - length front ≡ suc (net - length (front ++ w ∷ [])) = omega arith in
            rw (past, place) (more (omega arith))
        | inr ge ↦
            let same : length front ≡ net = omega arith in
            let found : rule a ≡ Some WITHOUT_LEVEL = is' ∙ ap (λ m. lowest ((WITHOUT_LEVEL, fails m || false) ∷ [])) same ∙ ap (λ b. lowest ((WITHOUT_LEVEL, b || false) ∷ [])) here in
            let place : net - length front ≡ 0 = omega arith in
            rw (found, place) refl
      ]

  -- the fault on lines from number a on, after those that define the names in front
  level_fault_from : (fs : List Form) (front : List (List ℕ)) (a : ℕ) → defined ≡ front ++ defined_names fs → length front ≤ net
      → ((k : ℕ) → k < length fs → rule (a + k) ≡ lowest ((WITHOUT_LEVEL, breaks_at (form_at fs k)) ∷ []))
      → fault_from rule a (length fs) ≡ Some (get_or (net_lines_from (a + 1) fs) (net - length front) 0, 8)
  level_fault_from [] front a names le is = absurd (omega (arith, ap length names, length-append front []))
  level_fault_from (f ∷ fs) front a names le is =
      let at : a + 0 ≡ a = omega arith in
      let first : rule a ≡ lowest ((WITHOUT_LEVEL, breaks_at f) ∷ []) = ap rule (sym at) ∙ is 0 (omega arith) in
      go f names first (λ front' names' le'. level_fault_from fs front' (a + 1) names' le' (λ k lt.
      let next : (a + 1) + k ≡ a + suc k = omega arith in
      ap rule next ∙ is (suc k) (omega arith)))
    where
      skip : rule a ≡ None → fault_from rule (a + 1) (length fs) ≡ Some (get_or (net_lines_from ((a + 1) + 1) fs) (net - length front) 0, 8)
          → fault_from rule a (suc (length fs)) ≡ Some (get_or (net_lines_from ((a + 1) + 1) fs) (net - length front) 0, 8)
      skip none more = rw none more

      go : (f : Form) → defined ≡ front ++ defined_names (f ∷ fs) → rule a ≡ lowest ((WITHOUT_LEVEL, breaks_at f) ∷ [])
          → ((front' : List (List ℕ)) → defined ≡ front' ++ defined_names fs → length front' ≤ net → fault_from rule (a + 1) (length fs) ≡ Some (get_or (net_lines_from ((a + 1) + 1) fs) (net - length front') 0, 8))
          → fault_from rule a (suc (length fs)) ≡ Some (get_or (net_lines_from (a + 1) (f ∷ fs)) (net - length front) 0, 8)
      go nothing names first more = skip first (more front names le)
      go (output n) names first more = skip first (more front names le)
      go no_form names first more = skip first (more front names le)
      go (input n) names first more =
          at_net n front (defined_names fs) a (length fs) (net_lines_from ((a + 1) + 1) fs) names le first (more (front ++ n ∷ []) (names ∙ sym (append_assoc front (n ∷ []) (defined_names fs))))
      go (definition n word operands) names first more =
          at_net n front (defined_names fs) a (length fs) (net_lines_from ((a + 1) + 1) fs) names le first (more (front ++ n ∷ []) (names ∙ sym (append_assoc front (n ∷ []) (defined_names fs))))

level_fault : (ls : List (List ℕ)) (net : ℕ) → IsDistinct bytes_eq (defined_names (forms_of ls)) → IsLeastWithoutLevel (circuit_in (forms_of ls)) net
    → first_fault (third_rule ls) (length ls) ≡ Some (get_or (net_lines_from 1 (forms_of ls)) net 0, 8)
level_fault ls net differ least =
    let fs : List Form = forms_of ls in
    let c : Netlist = circuit_in fs in
    ap (fault_from (third_rule ls) 0) (sym (length-map ls form_of))
    ∙ level_fault_from (defined_names fs) differ (λ m. not (has_level c m)) net (ap not (test-from_no_level c net least.no_level))
    (λ m lt. ap not (test-from_gate_level c m (least.least m lt))) (omega (arith, least.in_range, length-nets_after fs)) (third_rule ls)
    fs [] 0 refl (omega arith) (λ k lt. let at : 0 + k ≡ k = omega arith in ap (third_rule ls) at)
    ∙ (let place : net - 0 ≡ net = omega arith in ap (λ i. Some (get_or (net_lines_from 1 fs) i 0, 8)) place)

-- ---- the whole reading

module _ (bytes : List ℕ) (early : early_fault (text_lines bytes) ≡ None) where
  pub reads_circuit : HasLevels (circuit_of bytes) → netlist_reading bytes ≡ Ok (circuit_of bytes)
  reads_circuit levels =
      ap (λ f. refused_or (or_else f (first_fault (third_rule (text_lines bytes)) (length (text_lines bytes)))) (circuit_of bytes)) early
      ∙ ap (λ f. refused_or f (circuit_of bytes)) (no_level_fault (text_lines bytes) levels)

  pub reads_level_fault : (net line : ℕ) → IsDistinct bytes_eq (defined_names (forms_of (text_lines bytes))) → IsLeastWithoutLevel (circuit_of bytes) net
      → line ≡ get_or (net_lines_from 1 (forms_of (text_lines bytes))) net 0 → netlist_reading bytes ≡ Err (line, WITHOUT_LEVEL)
  reads_level_fault net line differ least is =
      ap (λ f. refused_or (or_else f (first_fault (third_rule (text_lines bytes)) (length (text_lines bytes)))) (circuit_of bytes)) early
      ∙ ap (λ f. refused_or f (circuit_of bytes)) (level_fault (text_lines bytes) net differ least)
      ∙ ap (λ l. Err (l, WITHOUT_LEVEL)) (sym is)

-- each net has the number of its line
pub length-net_lines_from : (n : ℕ) (fs : List Form) → length (net_lines_from n fs) ≡ length (defined_names fs)
length-net_lines_from n [] = refl
length-net_lines_from n (nothing ∷ fs) = length-net_lines_from (n + 1) fs
length-net_lines_from n (output w ∷ fs) = length-net_lines_from (n + 1) fs
length-net_lines_from n (no_form ∷ fs) = length-net_lines_from (n + 1) fs
length-net_lines_from n (input w ∷ fs) = ap suc (length-net_lines_from (n + 1) fs)
length-net_lines_from n (definition w word operands ∷ fs) = ap suc (length-net_lines_from (n + 1) fs)
