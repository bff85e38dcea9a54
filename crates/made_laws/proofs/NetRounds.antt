-- A netlist that is written line by line breaks no rule of the first two rounds.
use Rattle.std.proofs.Common.{◌≡◌, ℕ, suc, ◌+◌, ◌*◌, ◌≤◌, Bool, true, false, not, ◌&&◌, ◌||◌, cond, leb, ltb, List, [], ◌∷◌, ◌++◌, length, map, take, None, refl, sym, ap, subst, ◌∙◌, arith, append_assoc, append-nil, zero}
use Rattle.std.specs.List.{AllByRecursion, list_any}
use Rattle.std.proofs.lemmas.Bool.{and_right, or_from}
use Rattle.std.proofs.lemmas.Bool.Decides.{nat_tests}
use Rattle.std.proofs.lemmas.List.{length-append, length-map, map-append}
use Rattle.std.proofs.lemmas.List.Concat.{flat_map-append}
use Rattle.scan_model.proofs.FaultSteps.{fault_from_none}
use Rattle.scan_model.specs.Lines.{line_at}
use Rattle.scan_model.specs.Words.{has_word, is_short}
use Rattle.scan_model.specs.TextFaults.{lowest, fault_from, first_fault}
use Rattle.scan_model.specs.declared.rules.TheConstants.{REFUSED_BYTE, NO_FORM, UNKNOWN_WORD, WRONG_COUNT, LONG_NAME, DEFINED_TWICE, UNDEFINED_NET, TOO_MANY_NETS_OR_PINS}
use Rattle.scan_model.specs.NetlistLines.{Form, output, form_of}
use Rattle.scan_model.specs.NetlistRules.{forms_of, form_at, nets_of, uses_of, defined_names, used_names, new_output, outputs_of, pins_of, pins_after, is_no_form, has_unknown_word, has_wrong_count, has_long_name, defines_among, makes_past, net_limit, pin_limit, first_rules, first_rule, uses_undefined_first, second_rule, early_fault}
use Rattle.made_laws.proofs.Plans.{Plan, an_input, an_output, a_cell, a_gate, line_of, planned, IsNetName, IsPlan, IsNumbered, AreNumbered, IsKnown, AreKeyed}
use Rattle.made_laws.proofs.NetForms.{plain_line, accepted_line, line_form, line_forms}
use Rattle.made_laws.proofs.Keyed.{keyed_append, keyed_new}

-- ---- the rules at one line

-- the table of a line with a form
abbrev table : List (List ℕ) → List (List ℕ) → ℕ → Bool → Form → List (ℕ × Bool)
table defined outputs pins refused f =
    (REFUSED_BYTE, refused) ∷
    (NO_FORM, is_no_form f) ∷
    (UNKNOWN_WORD, has_unknown_word f) ∷
    (WRONG_COUNT, has_wrong_count f) ∷
    (LONG_NAME, has_long_name f) ∷
    (DEFINED_TWICE, defines_among defined f) ∷ (
      TOO_MANY_NETS_OR_PINS,
      makes_past (length defined) (length (nets_of f)) net_limit
          || makes_past pins (length (pins_of outputs f)) pin_limit,
    ) ∷ []

none_of_seven : (p q r s t u v : Bool) → p ≡ false → q ≡ false → r ≡ false → s ≡ false → t ≡ false → u ≡ false → v ≡ false
    → lowest ((REFUSED_BYTE, p) ∷ (NO_FORM, q) ∷ (UNKNOWN_WORD, r) ∷ (WRONG_COUNT, s) ∷ (LONG_NAME, t) ∷ (DEFINED_TWICE, u) ∷ (TOO_MANY_NETS_OR_PINS, v) ∷ []) ≡ None
none_of_seven p q r s t u v a b c d e f g = rw (a, b, c, d, e, f, g) refl

short_name : (n : List ℕ) → IsNetName n → not (is_short n) ≡ false
short_name n is = let le : length n ≤ 64 = is.short in let e : leb (length n) 64 ≡ true = grind (arith, nat_tests) in ap not e

fits : (earlier made limit : ℕ) → earlier + made ≤ limit → makes_past earlier made limit ≡ false
fits earlier made limit le = let e : ltb limit (earlier + made) ≡ false = grind (arith, nat_tests) in and_right (ltb 0 made) (ltb limit (earlier + made)) e

at_most_one : (outputs : List (List ℕ)) (n : List ℕ) → length (new_output outputs (output n)) ≤ 1
at_most_one outputs n = go (has_word outputs n)
  where
    go : (b : Bool) → length (cond b [] (n ∷ [])) ≤ 1
    go true = omega arith
    go false = omega arith

pub few_pins : (outputs : List (List ℕ)) (p : Plan) → length (pins_of outputs (planned p)) ≤ 2
few_pins outputs (an_input n) = omega arith
few_pins outputs (an_output n) = omega (arith, at_most_one outputs n)
few_pins outputs (a_cell n o) = omega arith
few_pins outputs (a_gate n w u v) = omega arith

few_nets : (p : Plan) → length (nets_of (planned p)) ≤ 1
few_nets (an_input n) = omega arith
few_nets (an_output n) = omega arith
few_nets (a_cell n o) = omega arith
few_nets (a_gate n w u v) = omega arith

module _ (key : List ℕ → ℕ) (defined outputs : List (List ℕ)) (pins : ℕ) (keyed : AreKeyed key 0 defined) where
  new_name : (n : List ℕ) → key n ≡ length defined → (has_word defined n || false) ≡ false
  new_name n e = rw (keyed_new key 0 defined n keyed (omega arith)) refl

  counts : (p : Plan) → length defined + 1 ≤ 65536 → pins + 2 ≤ 262144
      → (makes_past (length defined) (length (nets_of (planned p))) net_limit || makes_past pins (length (pins_of outputs (planned p))) pin_limit) ≡ false
  counts p nets pin = or_from _ _ (fits (length defined) (length (nets_of (planned p))) 65536 (omega (arith, few_nets p))) (fits pins (length (pins_of outputs (planned p))) 262144 (omega (arith, few_pins outputs p)))

  form_passes : (p : Plan) → IsPlan p → IsNumbered key (length defined) p → length defined + 1 ≤ 65536 → pins + 2 ≤ 262144 → lowest (table defined outputs pins false (planned p)) ≡ None
  form_passes (an_input n) is numbered nets pin =
      none_of_seven _ _ _ _ _ _ _ refl refl refl refl (rw (short_name n is) refl) (new_name n numbered.0) (counts (an_input n) nets pin)
  form_passes (an_output n) is numbered nets pin =
      none_of_seven _ _ _ _ _ _ _ refl refl refl refl (rw (short_name n is) refl) refl (counts (an_output n) nets pin)
  form_passes (a_cell n o) is numbered nets pin =
      none_of_seven _ _ _ _ _ _ _ refl refl refl refl (rw (short_name n is.0, short_name o is.1) refl) (new_name n numbered.0) (counts (a_cell n o) nets pin)
  form_passes (a_gate n w u v) is numbered nets pin =
      none_of_seven _ _ _ _ _ _ _ refl refl (rw is.3.named refl) (rw (is.3.named, is.3.takes_more) refl) (rw (short_name n is.0, short_name u is.1, short_name v is.2) refl) (new_name n numbered.0) (counts (a_gate n w u v) nets pin)

  pub line_passes : (p : Plan) → IsPlan p → IsNumbered key (length defined) p → length defined + 1 ≤ 65536 → pins + 2 ≤ 262144 → lowest (first_rules defined outputs pins (line_of p)) ≡ None
  line_passes p is numbered nets pin =
      ap (λ (b : Bool). lowest (table defined outputs pins b (form_of (line_of p)))) (accepted_line (line_of p) (plain_line p is))
      ∙ ap (λ (f : Form). lowest (table defined outputs pins false f)) (line_form p is)
      ∙ form_passes p is numbered nets pin

-- ---- the first round

-- the nets that lines define
abbrev pub names_in : List Plan → List (List ℕ)
names_in ps = defined_names (map planned ps)

one_keyed : (key : List ℕ → ℕ) (m : ℕ) (p : Plan) → IsNumbered key m p → AreKeyed key m (nets_of (planned p))
one_keyed key m (an_input n) numbered = (numbered.0, tt)
one_keyed key m (an_output n) numbered = tt
one_keyed key m (a_cell n o) numbered = (numbered.0, tt)
one_keyed key m (a_gate n w u v) numbered = (numbered.0, tt)

pub numbered_keyed : (key : List ℕ → ℕ) (m : ℕ) (ps : List Plan) (end : ℕ) → AreNumbered key m ps end → AreKeyed key m (names_in ps) × (end ≡ m + length (names_in ps))
numbered_keyed key m [] end numbered = (tt, omega arith)
numbered_keyed key m (p ∷ ps) end numbered =
    let rest = numbered_keyed key (m + length (nets_of (planned p))) ps end numbered.2 in
    (keyed_append key m (nets_of (planned p)) (names_in ps) (one_keyed key m p numbered.1) rest.0, omega (arith, rest.1, length-append (nets_of (planned p)) (names_in ps)))

pub numbered_plans : (key : List ℕ → ℕ) (m : ℕ) (ps : List Plan) (end : ℕ) → AreNumbered key m ps end → AllByRecursion IsPlan ps
numbered_plans key m [] end numbered = tt
numbered_plans key m (p ∷ ps) end numbered = (numbered.0, numbered_plans key (m + length (nets_of (planned p))) ps end numbered.2)

pub pins_are_few : (outputs : List (List ℕ)) (ps : List Plan) → length (pins_after outputs (map planned ps)) ≤ 2 * length ps
pins_are_few outputs [] = omega arith
pins_are_few outputs (p ∷ ps) =
    let later : List (List ℕ) = outputs ++ new_output outputs (planned p) in
    omega (arith, few_pins outputs p, pins_are_few later ps, length-append (pins_of outputs (planned p)) (pins_after later (map planned ps)))

pub nets_are_few : (ps : List Plan) → length (names_in ps) ≤ length ps
nets_are_few [] = omega arith
nets_are_few (p ∷ ps) = omega (arith, few_nets p, nets_are_few ps, length-append (nets_of (planned p)) (names_in ps))

front_lines : (front ps : List Plan) → take (length front) (map line_of (front ++ ps)) ≡ map line_of front
front_lines [] ps = refl
front_lines (f ∷ front) ps = ap (λ (ls : List (List ℕ)). line_of f ∷ ls) (front_lines front ps)

line_there : (front : List Plan) (p : Plan) (ps : List Plan) → line_at (map line_of (front ++ p ∷ ps)) (length front) ≡ line_of p
line_there [] p ps = refl
line_there (f ∷ front) p ps = line_there front p ps

rule_there : (front : List Plan) (p : Plan) (ps : List Plan) → AllByRecursion IsPlan front
    → first_rule (map line_of (front ++ p ∷ ps)) (length front) ≡ lowest (first_rules (names_in front) (outputs_of (map planned front)) (length (pins_after [] (map planned front))) (line_of p))
rule_there front p ps plans =
    let ls : List (List ℕ) = map line_of (front ++ p ∷ ps) in
    ap (λ (fs : List Form). lowest (first_rules (defined_names fs) (outputs_of fs) (length (pins_after [] fs)) (line_at ls (length front)))) (ap forms_of (front_lines front (p ∷ ps)) ∙ line_forms front plans)
    ∙ ap (λ (l : List ℕ). lowest (first_rules (names_in front) (outputs_of (map planned front)) (length (pins_after [] (map planned front))) l)) (line_there front p ps)

plans_push : (front : List Plan) (p : Plan) → AllByRecursion IsPlan front → IsPlan p → AllByRecursion IsPlan (front ++ p ∷ [])
plans_push [] p plans is = (is, tt)
plans_push (f ∷ front) p plans is = (plans.0, plans_push front p plans.1 is)

names_push : (front : List Plan) (p : Plan) → names_in (front ++ p ∷ []) ≡ names_in front ++ nets_of (planned p)
names_push front p =
    ap defined_names (map-append planned front (p ∷ [])) ∙ flat_map-append nets_of (map planned front) (planned p ∷ []) ∙ ap (λ (ns : List (List ℕ)). names_in front ++ ns) (append-nil (nets_of (planned p)))

module _ (key : List ℕ → ℕ) (all : List Plan) (few : length all ≤ 60000) where
  walk : (front ps : List Plan) (end : ℕ) → all ≡ front ++ ps → AllByRecursion IsPlan front → AreKeyed key 0 (names_in front) → AreNumbered key (length (names_in front)) ps end
      → fault_from (first_rule (map line_of all)) (length front) (length ps) ≡ None
  walk front [] end is plans keyed numbered = refl
  walk front (p ∷ ps) end is plans keyed numbered =
      let size : length all ≡ length front + length (p ∷ ps) = ap length is ∙ length-append front (p ∷ ps) in
      let here : first_rule (map line_of all) (length front) ≡ None =
      ap (λ (ps' : List Plan). first_rule (map line_of ps') (length front)) is ∙ rule_there front p ps plans
      ∙ line_passes key (names_in front) (outputs_of (map planned front)) (length (pins_after [] (map planned front))) keyed p numbered.0 numbered.1
      (omega (arith, nets_are_few front)) (omega (arith, pins_are_few [] front)) in
      let names : names_in (front ++ p ∷ []) ≡ names_in front ++ nets_of (planned p) = names_push front p in
      let count : length (names_in front) + length (nets_of (planned p)) ≡ length (names_in (front ++ p ∷ [])) = sym (ap length names ∙ length-append (names_in front) (nets_of (planned p))) in
      let later = walk (front ++ p ∷ []) ps end (is ∙ sym (append_assoc front (p ∷ []) ps)) (plans_push front p plans numbered.0)
      (subst (AreKeyed key 0) (sym names) (keyed_append key 0 (names_in front) (nets_of (planned p)) keyed (one_keyed key (0 + length (names_in front)) p (let zero_more : length (names_in front) ≡ 0 + length (names_in front) = omega arith in subst (λ (k : ℕ). IsNumbered key k p) zero_more numbered.1))))
      (subst (λ (k : ℕ). AreNumbered key k ps end) count numbered.2) in
      let place : length (front ++ p ∷ []) ≡ length front + 1 = length-append front (p ∷ []) in
      rw here (subst (λ (k : ℕ). fault_from (first_rule (map line_of all)) k (length ps) ≡ None) place later)

  pub first_none : (end : ℕ) → AreNumbered key 0 all end → first_fault (first_rule (map line_of all)) (length (map line_of all)) ≡ None
  first_none end numbered = ap (fault_from (first_rule (map line_of all)) 0) (length-map all line_of) ∙ walk [] all end refl tt tt numbered

-- ---- the second round

none_unknown : (names : List (List ℕ)) (test : List ℕ → Bool) (ns : List (List ℕ)) → AllByRecursion (λ n. has_word names n ≡ true) ns → list_any (λ n. not (has_word names n) && test n) ns ≡ false
none_unknown names test [] known = refl
none_unknown names test (n ∷ ns) known = rw known.0 (none_unknown names test ns known.1)

uses_at : (names : List (List ℕ)) (ps : List Plan) → AllByRecursion (IsKnown names) ps → (i : ℕ) → AllByRecursion (λ n. has_word names n ≡ true) (uses_of (form_at (map planned ps) i))
uses_at names [] known i = tt
uses_at names (p ∷ ps) known zero = known.0.1
uses_at names (p ∷ ps) known (suc i) = uses_at names ps known.1 i

second_none : (ps : List Plan) → AllByRecursion IsPlan ps → AllByRecursion (IsKnown (names_in ps)) ps → first_fault (second_rule (map line_of ps)) (length (map line_of ps)) ≡ None
second_none ps plans known = fault_from_none (second_rule (map line_of ps)) 0 (length (map line_of ps)) (λ k low high.
    ap (λ (fs : List Form). lowest ((UNDEFINED_NET, uses_undefined_first fs k) ∷ [])) (line_forms ps plans)
    ∙ ap (λ (b : Bool). lowest ((UNDEFINED_NET, b) ∷ [])) (none_unknown (names_in ps) (λ n. not (has_word (used_names (take k (map planned ps))) n)) (uses_of (form_at (map planned ps) k)) (uses_at (names_in ps) ps known k)))

pub early_none : (key : List ℕ → ℕ) (ps : List Plan) (end : ℕ) → length ps ≤ 60000 → AreNumbered key 0 ps end → AllByRecursion (IsKnown (names_in ps)) ps → early_fault (map line_of ps) ≡ None
early_none key ps end few numbered known = rw (first_none key ps few end numbered) (second_none ps (numbered_plans key 0 ps end numbered) known)
