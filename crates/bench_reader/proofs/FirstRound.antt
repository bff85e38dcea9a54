-- One more line in the first round.
use Rattle.std.proofs.Common.{◌≡◌, ℕ, ◌+◌, ◌-◌, ◌<◌, ◌≤◌, Bool, true, false, not, ◌||◌, List, [], ◌∷◌, ◌++◌, length, take, get_or, map, Some, None, refl, sym, ap, ◌∙◌, arith, append_assoc, append-nil, Bor}
use Rattle.std.specs.Prelude.{All, flat_map}
use Rattle.std.specs.List.{enumerate_from, list_any, AllByRecursion, IsDistinct}
use Rattle.std.specs.Str.{bytes_eq}
use Rattle.std.specs.Cmp.Lexicographic.{nat_list_eq_equiv}
use Rattle.std.proofs.lemmas.Bool.{leb-true, or_parts}
use Rattle.std.proofs.lemmas.Map.Keys.{IsDistinct-push}
use Rattle.std.proofs.lemmas.List.{map_more, length-map, get_or-map, take_all, length-append, length-take}
use Rattle.std.proofs.lemmas.List.FromFn.{length-enumerate_from}
use Rattle.std.proofs.lemmas.List.Concat.{flat_map-append}
use Rattle.std.proofs.lemmas.List.Elements.{All-append, All-cons, All-nil}
use Rattle.std.proofs.lemmas.Grind.{fold-append}
use Rattle.scan_model.specs.Lines.{line_at, has_refused_byte}
use Rattle.scan_model.specs.Words.{is_short, has_word}
use Rattle.scan_model.specs.TextFaults.{lowest, fault_from, first_fault}
use Rattle.scan_model.specs.declared.rules.TheConstants.{REFUSED_BYTE, NO_FORM, UNKNOWN_WORD, WRONG_COUNT, LONG_NAME, DEFINED_TWICE, TOO_MANY_NETS_OR_PINS}
use Rattle.scan_model.specs.NetlistLines.{Form, nothing, input, output, definition, no_form, form_of}
use Rattle.scan_model.specs.NetlistRules.{forms_of, nets_of, new_output, pins_of, pins_after, defined_names, outputs_of, defines_among, has_long_name, is_no_form, has_unknown_word, has_wrong_count, net_limit, pin_limit, makes_past, first_rule, first_rules}
use Rattle.scan_model.proofs.FaultSteps.{fault_goes_on, fault_is_here, fault_is_none}
use Rattle.text_parts.specs.Views.{nows}
use Rattle.bench_reader.specs.declared.first_round.NetlistDraft.{NetlistDraft}
use Rattle.scan_model.specs.declared.circuit.Driver.{Driver}
use Rattle.bench_reader.specs.NetUses.{operand_use, use_view, use_views, line_uses}
use Rattle.bench_reader.specs.NetlistDrafts.{AddsNames, TakesDefinition, Takes, IsAfter, IsWithin, net_lines_from}
use Rattle.bench_reader.specs.FaultlessLines.{AreClean, HasItsOperands}
use Rattle.bench_reader.proofs.UsesOfLines.{outputs_after, length-line_uses, nets_after_push, inputs_after_push, uses_after_push}
use Rattle.bench_reader.proofs.CircuitOfLines.{length-nets_after}

pub enumerate_from_push : {X : Type 0} (n : ℕ) (xs : List X) (x : X) → enumerate_from n (xs ++ x ∷ []) ≡ enumerate_from n xs ++ (n + length xs, x) ∷ []
enumerate_from_push n [] x = let e : n ≡ n + 0 = omega arith in ap (λ k. (k, x) ∷ []) e
enumerate_from_push n (y ∷ ys) x =
    let e : (n + 1) + length ys ≡ n + length (y ∷ ys) = omega arith in
    ap (λ zs. (n, y) ∷ zs) (enumerate_from_push (n + 1) ys x ∙ ap (λ k. enumerate_from (n + 1) ys ++ (k, x) ∷ []) e)

-- the pins of one more line
pins_after_push : (os : List (List ℕ)) (fs : List Form) (f : Form) → pins_after os (fs ++ f ∷ []) ≡ pins_after os fs ++ pins_of (outputs_after os fs) f
pins_after_push os [] f = append-nil (pins_of os f)
pins_after_push os (g ∷ gs) f = ap (λ ps. pins_of os g ++ ps) (pins_after_push (os ++ new_output os g) gs f) ∙ sym (append_assoc (pins_of os g) _ _)

defined_names_push : (fs : List Form) (f : Form) → defined_names (fs ++ f ∷ []) ≡ defined_names fs ++ nets_of f
defined_names_push fs f = flat_map-append nets_of fs (f ∷ []) ∙ ap (λ ns. defined_names fs ++ ns) (append-nil (nets_of f))

net_lines_push : (n : ℕ) (fs : List Form) (f : Form) → net_lines_from n (fs ++ f ∷ []) ≡ net_lines_from n fs ++ map (λ w. n + length fs) (nets_of f)
net_lines_push n fs f =
    ap (λ es. flat_map (λ e. map (λ w. e.0) (nets_of e.1)) es) (enumerate_from_push n fs f)
    ∙ flat_map-append (λ (e : ℕ × Form). map (λ (w : List ℕ). e.0) (nets_of e.1)) (enumerate_from n fs) ((n + length fs, f) ∷ [])
    ∙ ap (λ ls. net_lines_from n fs ++ ls) (append-nil (map (λ (w : List ℕ). n + length fs) (nets_of f)))

takes_count : (old new : NetlistDraft) (f : Form) (number : ℕ) → Takes old new number f → length new.uses.items ≡ length old.uses.items + length (pins_of old.outputs f)
takes_count old new f number takes =
    omega (arith, ap length takes.uses, length-append (use_views old.uses.items) (line_uses number (length old.nets.items) old.outputs f), length-line_uses number (length old.nets.items) old.outputs f, length-map old.uses.items use_view, length-map new.uses.items use_view)

-- no limit is passed after one more definition, whose net's name is added first
pub within_definition : (old named new : NetlistDraft) (number : ℕ) (n : List ℕ) (driver : Driver) (operands : List (Bor (List ℕ))) → IsWithin old → AddsNames old named number (n ∷ []) → TakesDefinition named new number n driver (nows operands)
    → length old.defined + 1 ≤ net_limit → length old.uses.items + length operands ≤ pin_limit → IsWithin new
within_definition old named new number n driver operands within names takes nets pins =
    let names_of : List (ℕ × List ℕ) = enumerate_from 0 (nows operands) in
    let size : length (map (operand_use number (length named.nets.items)) names_of) ≡ length operands =
    length-map names_of (operand_use number (length named.nets.items)) ∙ length-enumerate_from 0 (nows operands) ∙ length-map operands (λ x. x.now) in
    let uses : length named.uses.items ≡ length old.uses.items = rw names.uses refl in
    let count : length new.uses.items ≡ length old.uses.items + length operands =
    omega (arith, size, uses, ap length takes.uses, length-append (use_views named.uses.items) (map (operand_use number (length named.nets.items)) names_of), length-map named.uses.items use_view, length-map new.uses.items use_view) in
    let named_nets : length named.nets.items ≡ length old.nets.items = rw names.nets refl in
    let new_nets : length new.nets.items ≡ length named.nets.items + 1 = ap length takes.nets ∙ length-append named.nets.items _ in
    let defined : length new.defined ≡ length old.defined + 1 = ap length (takes.defined ∙ names.defined) ∙ length-append old.defined (n ∷ []) in
    record {
      nets = omega (arith, nets, defined);
      pins = omega (arith, pins, count);
      each = omega (arith, within.each, named_nets, new_nets, defined);
      outputs = omega (arith, within.outputs, count, ap length (takes.outputs ∙ names.outputs));
    }

-- the draft of a netlist after one more line
after_takes : (old new : NetlistDraft) (fs : List Form) (f : Form) (number : ℕ) → number ≡ 1 + length fs → IsAfter old fs → Takes old new number f → IsAfter new (fs ++ f ∷ [])
after_takes old new fs f number is after takes =
    let nets : length old.nets.items ≡ 0 + length (defined_names fs) = omega (arith, ap length after.nets, length-nets_after fs) in
    let pins : length old.uses.items ≡ 0 + length (pins_after [] fs) = omega (arith, after.pins) in
    record {
      nets = takes.nets ∙ rw (after.nets, pins) (sym (nets_after_push [] 0 fs f));
      inputs = takes.inputs ∙ rw (after.inputs, nets) (sym (inputs_after_push 0 fs f));
      uses = takes.uses ∙ rw (after.uses, is, nets, after.outputs) (sym (uses_after_push 1 0 [] fs f));
      defined = takes.defined ∙ ap (λ ns. ns ++ nets_of f) after.defined ∙ sym (defined_names_push fs f);
      net_lines = takes.net_lines ∙ rw (after.net_lines, is) (sym (net_lines_push 1 fs f));
      outputs = takes.outputs ∙ ap (λ os. os ++ new_output os f) after.outputs ∙ sym (fold-append (λ outputs g. outputs ++ new_output outputs g) [] fs (f ∷ []));
      pins = takes_count old new f number takes ∙ rw (after.pins, after.outputs) (sym (ap length (pins_after_push [] fs f) ∙ length-append (pins_after [] fs) (pins_of (outputs_of fs) f)));
    }

-- ---- one more line that breaks no rule

not_broken : (r : ℕ) (b : Bool) (more : List (ℕ × Bool)) → lowest ((r, b) ∷ more) ≡ None → (b ≡ false) × (lowest more ≡ None)
not_broken r true more e = absurd cc
not_broken r false more e = (refl, e)

six_held : (b1 b2 b3 b4 b5 b6 : Bool) (b9 : ℕ × Bool) → lowest ((REFUSED_BYTE, b1) ∷ (NO_FORM, b2) ∷ (UNKNOWN_WORD, b3) ∷ (WRONG_COUNT, b4) ∷ (LONG_NAME, b5) ∷ (DEFINED_TWICE, b6) ∷ b9 ∷ []) ≡ None
    → (b3 ≡ false) × (b4 ≡ false) × (b5 ≡ false) × (b6 ≡ false)
six_held b1 b2 b3 b4 b5 b6 b9 none =
    let past1 = not_broken REFUSED_BYTE b1 ((NO_FORM, b2) ∷ (UNKNOWN_WORD, b3) ∷ (WRONG_COUNT, b4) ∷ (LONG_NAME, b5) ∷ (DEFINED_TWICE, b6) ∷ b9 ∷ []) none in
    let past2 = not_broken NO_FORM b2 ((UNKNOWN_WORD, b3) ∷ (WRONG_COUNT, b4) ∷ (LONG_NAME, b5) ∷ (DEFINED_TWICE, b6) ∷ b9 ∷ []) past1.1 in
    let past3 = not_broken UNKNOWN_WORD b3 ((WRONG_COUNT, b4) ∷ (LONG_NAME, b5) ∷ (DEFINED_TWICE, b6) ∷ b9 ∷ []) past2.1 in
    let past4 = not_broken WRONG_COUNT b4 ((LONG_NAME, b5) ∷ (DEFINED_TWICE, b6) ∷ b9 ∷ []) past3.1 in
    let past5 = not_broken LONG_NAME b5 ((DEFINED_TWICE, b6) ∷ b9 ∷ []) past4.1 in
    (past3.0, past4.0, past5.0, (not_broken DEFINED_TWICE b6 (b9 ∷ []) past5.1).0)

all_push : (P : Form → Type 0) (fs : List Form) (f : Form) → AllByRecursion P fs → P f → AllByRecursion P (fs ++ f ∷ [])
all_push P [] f all here = (here, tt)
all_push P (g ∷ gs) f all here = (all.0, all_push P gs f all.1 here)

not_false : (b : Bool) → not b ≡ false → b ≡ true
not_false true e = refl
not_false false e = absurd cc

no_new : (n : List ℕ) (ds : List (List ℕ)) → IsDistinct bytes_eq ds → All (λ m. length m ≤ 64) ds → list_any (has_word ds) (n ∷ []) ≡ false → (not (is_short n) ≡ false)
    → IsDistinct bytes_eq (ds ++ n ∷ []) × All (λ m. length m ≤ 64) (ds ++ n ∷ [])
no_new n ds differ short new fits = (
  IsDistinct-push nat_list_eq_equiv ds n differ (or_parts (has_word ds n) false new).0,
  All-append (λ m. length m ≤ 64) ds (n ∷ []) short (All-cons (λ m. length m ≤ 64) n [] (leb-true (length n) 64 (not_false (is_short n) fits)) (All-nil (λ m. length m ≤ 64))),
)

-- at most one new name, which is short and none of these
names_more : (ds : List (List ℕ)) (f : Form) → IsDistinct bytes_eq ds → All (λ n. length n ≤ 64) ds → defines_among ds f ≡ false → has_long_name f ≡ false
    → IsDistinct bytes_eq (ds ++ nets_of f) × All (λ n. length n ≤ 64) (ds ++ nets_of f)
names_more ds nothing differ short new fits = rw append-nil (differ, short)
names_more ds (output n) differ short new fits = rw append-nil (differ, short)
names_more ds no_form differ short new fits = rw append-nil (differ, short)
names_more ds (input n) differ short new fits = no_new n ds differ short new (or_parts (not (is_short n)) _ fits).0
names_more ds (definition n word operands) differ short new fits = no_new n ds differ short new (or_parts (not (is_short n)) _ fits).0

clean_more : (fs : List Form) (outputs : List (List ℕ)) (pins : ℕ) (line : List ℕ) → AreClean fs → lowest (first_rules (defined_names fs) outputs pins line) ≡ None → AreClean (fs ++ form_of line ∷ [])
clean_more fs outputs pins line clean none =
    let f : Form = form_of line in
    let held = six_held (has_refused_byte line) (is_no_form f) (has_unknown_word f) (has_wrong_count f) (has_long_name f) (defines_among (defined_names fs) f)
    (TOO_MANY_NETS_OR_PINS, makes_past (length (defined_names fs)) (length (nets_of f)) net_limit || makes_past pins (length (pins_of outputs f)) pin_limit) none in
    let names = names_more (defined_names fs) (form_of line) clean.differ clean.short held.3 held.2 in
    let is = defined_names_push fs (form_of line) in
    record {
      counts = all_push HasItsOperands fs (form_of line) clean.counts (held.0, held.1);
      differ = rw is names.0;
      short = rw is names.1;
    }

pub clean_none : AreClean []
unfolding IsDistinct
clean_none = record { counts = tt; differ = tt; short = All-nil (λ n. length n ≤ 64) }

module _ (ls : List (List ℕ)) (items : List (Bor (List ℕ))) (i : ℕ) (d : Bor (List ℕ)) (draft : NetlistDraft)
    (same : nows items ≡ ls)
    (so_far : fault_from (first_rule ls) i (length ls - i) ≡ first_fault (first_rule ls) (length ls))
    (after : IsAfter draft (forms_of (take i ls))) where
  lines_length : length items ≡ length ls
  lines_length = sym (length-map items (λ x. x.now)) ∙ ap length same

  line_is : i < length items → (get_or items i d).now ≡ line_at ls i
  line_is lt = sym (get_or-map (λ x. x.now) items i d [] lt) ∙ ap (λ ts. line_at ts i) same

  rule_is : i < length items → lowest (first_rules draft.defined draft.outputs (length draft.uses.items) (get_or items i d).now) ≡ first_rule ls i
  rule_is lt = rw (after.defined, after.outputs, after.pins, line_is lt) refl

  pub line_is_faulty : (r : ℕ) → i < length items → Some r ≡ lowest (first_rules draft.defined draft.outputs (length draft.uses.items) (get_or items i d).now)
      → first_fault (first_rule ls) (length ls) ≡ Some (i + 1, r)
  line_is_faulty r lt some =
      let lt' : i < length ls = omega (arith, lines_length) in
      fault_is_here (first_rule ls) (length ls) i _ r lt' (sym (some ∙ rule_is lt)) so_far

  pub no_fault_more : i < length items → None ≡ lowest (first_rules draft.defined draft.outputs (length draft.uses.items) (get_or items i d).now)
      → fault_from (first_rule ls) (i + 1) (length ls - (i + 1)) ≡ first_fault (first_rule ls) (length ls)
  no_fault_more lt none =
      let lt' : i < length ls = omega (arith, lines_length) in
      fault_goes_on (first_rule ls) (length ls) i _ lt' (sym (none ∙ rule_is lt)) so_far

  pub after_more : (new : NetlistDraft) → i < length items → Takes draft new (i + 1) (form_of (get_or items i d).now) → IsAfter new (forms_of (take (i + 1) ls))
  after_more new lt takes =
      let lt' : i < length ls = omega (arith, lines_length) in
      let number : i + 1 ≡ 1 + length (forms_of (take i ls)) = omega (arith, length-map (take i ls) form_of, length-take i ls) in
      rw (map_more form_of ls i [] lt', ← line_is lt) (after_takes draft new (forms_of (take i ls)) _ (i + 1) number after takes)

  pub clean_after : i < length items → None ≡ lowest (first_rules draft.defined draft.outputs (length draft.uses.items) (get_or items i d).now) → AreClean (forms_of (take i ls)) → AreClean (forms_of (take (i + 1) ls))
  clean_after lt none clean =
      let lt' : i < length ls = omega (arith, lines_length) in
      let none' : lowest (first_rules draft.defined draft.outputs (length draft.uses.items) (get_or items i d).now) ≡ None = sym none in
      rw (map_more form_of ls i [] lt', ← line_is lt) (clean_more (forms_of (take i ls)) draft.outputs (length draft.uses.items) (get_or items i d).now clean (rw after.defined at none'))

  pub round_is_over : length items ≤ i
      → (first_fault (first_rule ls) (length ls) ≡ None) × (take i ls ≡ ls)
  round_is_over le =
      let le' : length ls ≤ i = omega (arith, lines_length) in
      (fault_is_none (first_rule ls) (length ls) i _ le' so_far, take_all i ls le')
