-- A gate shows a change of one of its operands where no other operand stands in the way.
use Rattle.std.proofs.Common.{◌≡◌, ◌⊎◌, ℕ, suc, ◌+◌, ◌-◌, ◌<◌, ◌≤◌, Bool, true, false, not, cond, eqb, ◌&&◌, ◌||◌, List, [], ◌∷◌, ◌++◌, All, length, map, take, drop, get_or, slice_range, refl, sym, ap, subst, ◌∙◌, inl, inr, arith}
use Rattle.std.specs.Prelude.{count_by}
use Rattle.std.specs.List.{list_all}
use Rattle.std.proofs.Math.Seq.{drop-cons, take-append-add}
use Rattle.std.proofs.lemmas.Bool.{cases_Bool, cases_eq, eq-eqb, ne_eqb}
use Rattle.std.proofs.lemmas.List.{map-append, length-take, length-drop, get_or-take, get_or-drop, get_or_default}
use Rattle.std.proofs.lemmas.List.Folds.{drop_split, list_all_more}
use Rattle.std.proofs.lemmas.List.Sums.{sum_by-cons, sum_by-append}
use Rattle.scan_model.specs.declared.values.Tri.{Tri}
use Rattle.scan_model.specs.declared.values.Tri.TheVariants.{Zero, One, Unknown}
use Rattle.scan_model.specs.declared.circuit.Net.{Net}
use Rattle.scan_model.specs.declared.circuit.Pin.{Pin}
use Rattle.scan_model.specs.declared.circuit.PinPlace.TheVariants.{Operand}
use Rattle.scan_model.specs.declared.circuit.GateKind.{GateKind}
use Rattle.scan_model.specs.declared.circuit.GateKind.TheVariants.{And, Nand, Or, Nor, Xor, Xnor, Not, Buf}
use Rattle.scan_model.specs.Values.{is_zero, is_one, is_unknown}
use Rattle.scan_model.specs.Netlist.{Netlist, IsNetlist, IsPlacedAt, net_at, no_pin, pin_at, reads}
use Rattle.scan_model.specs.BranchMask.{in_the_way}
use Rattle.lane_rows.proofs.KeptGates.{of_pins}
use Rattle.packed_sim.specs.OperandValues.{senses_of}

-- ---- the operands around one of them

-- a part of a list around one of its places
part_around : {A : Type 0} (d : A) (xs : List A) (first own end : ℕ) → first ≤ own → own < end → end ≤ length xs
    → slice_range xs first end ≡ slice_range xs first own ++ get_or xs own d ∷ slice_range xs (own + 1) end
part_around d xs first own end low high within =
    let front = slice_range xs first own in
    let rest = end - (own + 1) in
    let size : length front ≡ own - first = omega (arith, length-take (own - first) (drop first xs), length-drop first xs) in
    let whole : end - first ≡ length front + suc rest = omega arith in
    let one : own + 1 ≡ suc own = omega arith in
    ap (λ (n : ℕ). take n (drop first xs)) whole
    ∙ ap (take (length front + suc rest)) (drop_split xs first own low)
    ∙ take-append-add front (drop own xs) (suc rest)
    ∙ ap (λ (l : List _). front ++ take (suc rest) l) (drop-cons xs own d (omega arith))
    ∙ ap (λ (n : ℕ). front ++ get_or xs own d ∷ take rest (drop n xs)) (sym one)

part_of_all : {A : Type 0} (P : A → Type 0) (xs : List A) (first end : ℕ) → All P xs → All P (slice_range xs first end)
part_of_all P xs first end all i d lt =
    let size = length-take (end - first) (drop first xs) in
    let left = length-drop first xs in
    subst P (sym (get_or-take (end - first) (drop first xs) i d (omega arith) ∙ get_or-drop first xs i d)) (all (first + i) d (omega arith))

module _ (c : Netlist) (sound : IsNetlist c) (pin gate : ℕ) (pin_lt : pin < length c.pins) (i : ℕ) (is_at : (pin_at c pin).place ≡ Operand gate i) where
  placed : IsPlacedAt c pin (Operand gate i)
  placed = subst (IsPlacedAt c pin) is_at (sound.pin_places pin pin_lt)

  pub gate_in_range : gate < length c.nets
  gate_in_range = placed.0

  not_in_front : (net_at c gate).first_pin ≤ pin
  not_in_front = omega (arith, placed.2)

  not_behind : pin < (net_at c gate).first_pin + (net_at c gate).pin_count
  not_behind = omega (arith, placed.1, placed.2)

  all_pins : (net_at c gate).first_pin + (net_at c gate).pin_count ≤ length c.pins
  all_pins = sound.operand_range gate gate_in_range

  pub read_around : (net : Net) (pins : List Pin) → net ≡ net_at c gate → pins ≡ c.pins
      → reads c gate ≡ map (λ other. other.net) (slice_range pins net.first_pin pin) ++ (pin_at c pin).net ∷ map (λ other. other.net) (slice_range pins (pin + 1) (net.first_pin + net.pin_count))
  read_around net pins is all =
      let of : Pin → ℕ = λ other. other.net in
      let first = (net_at c gate).first_pin in
      let end = (net_at c gate).first_pin + (net_at c gate).pin_count in
      sym (of_pins c gate all_pins of)
      ∙ ap (map of) (part_around no_pin c.pins first pin end not_in_front not_behind all_pins)
      ∙ map-append of (slice_range c.pins first pin) (pin_at c pin ∷ slice_range c.pins (pin + 1) end)
      ∙ rw (is, all) refl

  pub nets_in_range : (first end : ℕ) → All (λ other. other.net < length c.nets) (slice_range c.pins first end)
  nets_in_range first end = part_of_all (λ other. other.net < length c.nets) c.pins first end
      (λ k d lt. subst (λ (other : Pin). other.net < length c.nets) (sym (get_or_default c.pins k d no_pin lt)) (sound.pin_nets k lt))

-- ---- none of the others is in the way

none_of_two : (w : Bool) (n : ℕ) → eqb (cond w 1 0 + n) 0 ≡ (not w && eqb n 0)
none_of_two true n = ne_eqb (1 + n) 0 (λ e. omega arith)
none_of_two false n = ap (λ (m : ℕ). eqb m 0) (omega arith)

none_of_both : (m n : ℕ) → eqb (m + n) 0 ≡ (eqb m 0 && eqb n 0)
none_of_both m n = elim (cases_eq m 0) [
  | inl is ↦ rw (eq-eqb m 0 is) (ap (λ (k : ℕ). eqb k 0) (omega arith))
  | inr other ↦ rw (ne_eqb m 0 other) (ne_eqb (m + n) 0 (λ e. other (omega arith)))
]

none_in_the_way : (p : Tri → Bool) (value : ℕ → Tri) (free : Pin → Bool) → ((pin : Pin) → free pin ≡ not (p (value pin.net))) → (pins : List Pin)
    → eqb (count_by p (map value (map (λ pin. pin.net) pins))) 0 ≡ list_all free pins
none_in_the_way p value free is [] = refl
none_in_the_way p value free is (pin ∷ pins) =
    let of : Pin → ℕ = λ pin. pin.net in
    let rest = map value (map of pins) in
    ap (λ (n : ℕ). eqb n 0) (sum_by-cons (λ (y : Tri). cond (p y) 1 0) (value pin.net) rest)
    ∙ none_of_two (p (value pin.net)) (count_by p rest)
    ∙ rw (is pin, none_in_the_way p value free is pins) refl

-- the own value counts at most once
but_for_own : (n : ℕ) (way : Bool) → (eqb (n + cond way 1 0) 0 || (eqb (n + cond way 1 0) 1 && way)) ≡ eqb n 0
but_for_own n true = rw (ne_eqb (n + 1) 0 (λ e. omega arith)) (elim (cases_eq n 0) [
  | inl is ↦ rw (eq-eqb n 0 is, eq-eqb (n + 1) 1 (omega arith)) refl
  | inr other ↦ rw (ne_eqb n 0 other, ne_eqb (n + 1) 1 (λ e. other (omega arith))) refl
])
but_for_own n false =
    let e : n + 0 ≡ n = omega arith in
    rw e (elim (cases_Bool (eqb n 0)) [ inl is ↦ rw is refl | inr other ↦ rw other (elim (cases_Bool (eqb n 1)) [ inl one ↦ rw one refl | inr no_one ↦ rw no_one refl ]) ])

senses_around : (kind : GateKind) (value : ℕ → Tri) (free : Pin → Bool) → ((pin : Pin) → free pin ≡ not (in_the_way kind (value pin.net))) → (nets : List ℕ) (own : ℕ) (front behind : List Pin)
    → nets ≡ map (λ pin. pin.net) front ++ own ∷ map (λ pin. pin.net) behind
    → senses_of kind (map value nets) (value own) ≡ (list_all free front && list_all free behind)
senses_around kind value free is nets own front behind around =
    let p = in_the_way kind in
    let ones : Tri → ℕ = λ y. cond (p y) 1 0 in
    let of : Pin → ℕ = λ pin. pin.net in
    let ls = map value (map of front) in
    let rs = map value (map of behind) in
    let way = p (value own) in
    let count : count_by p (map value nets) ≡ (count_by p ls + count_by p rs) + cond way 1 0 =
    ap (λ (l : List ℕ). count_by p (map value l)) around
    ∙ ap (count_by p) (map-append value (map of front) (own ∷ map of behind))
    ∙ sum_by-append ones ls (value own ∷ rs)
    ∙ ap (λ (n : ℕ). count_by p ls + n) (sum_by-cons ones (value own) rs)
    ∙ omega arith in
    ap (λ (n : ℕ). eqb n 0 || (eqb n 1 && way)) count
    ∙ but_for_own (count_by p ls + count_by p rs) way
    ∙ none_of_both (count_by p ls) (count_by p rs)
    ∙ rw (none_in_the_way p value free is front, none_in_the_way p value free is behind) refl

-- ---- lanes of lanes

both_parts : (a b x y r : Bool) → x ≡ (r && a) → y ≡ (x && b) → y ≡ (r && (a && b))
both_parts a b x y true x_is y_is = y_is ∙ ap (λ (z : Bool). z && b) x_is
both_parts a b x y false x_is y_is = y_is ∙ ap (λ (z : Bool). z && b) x_is

-- what stands past the end of the pins
abbrev pub no_pin_there : Pin
no_pin_there = record { net = 0; place = Operand 0 0 }

pub one_pin_more : (free : Pin → Bool) (pins : List Pin) (i : ℕ) (lanes now next : Bool) → i < length pins → now ≡ (lanes && list_all free (take i pins)) → next ≡ (now && free (get_or pins i no_pin_there))
    → next ≡ (lanes && list_all free (take (i + 1) pins))
one_pin_more free pins i lanes now next lt now_is next_is =
    both_parts (list_all free (take i pins)) (free (get_or pins i no_pin_there)) now next lanes now_is next_is ∙ ap (λ (z : Bool). lanes && z) (sym (list_all_more free pins i no_pin_there lt))

-- a gate senses an operand where no other hides it, in front of it or behind it
pub sensed_in_parts : (kind : GateKind) (value : ℕ → Tri) (free : Pin → Bool) → ((pin : Pin) → free pin ≡ not (in_the_way kind (value pin.net))) → (nets : List ℕ) (own : ℕ) (front behind : List Pin)
    → nets ≡ map (λ pin. pin.net) front ++ own ∷ map (λ pin. pin.net) behind
    → (lanes half whole : Bool) → half ≡ (lanes && list_all free front) → whole ≡ (half && list_all free behind) → whole ≡ (lanes && senses_of kind (map value nets) (value own))
sensed_in_parts kind value free is nets own front behind around lanes half whole half_is whole_is =
    both_parts (list_all free front) (list_all free behind) half whole lanes half_is whole_is
    ∙ ap (λ (z : Bool). lanes && z) (sym (senses_around kind value free is nets own front behind around))

-- ---- the values that hide nothing

pub known_is : (v : Tri) → (is_one v || is_zero v) ≡ not (is_unknown v)
known_is Zero = refl
known_is One = refl
known_is Unknown = refl

not_not : (b : Bool) → not (not b) ≡ b
not_not true = refl
not_not false = refl

pub free_of_and : (kind : GateKind) → (kind ≡ And) ⊎ (kind ≡ Nand) → (x : Tri) → is_one x ≡ not (in_the_way kind x)
free_of_and kind is x = elim is [
  | inl e ↦ sym (ap (λ (k : GateKind). not (in_the_way k x)) e ∙ not_not (is_one x))
  | inr e ↦ sym (ap (λ (k : GateKind). not (in_the_way k x)) e ∙ not_not (is_one x))
]

pub free_of_or : (kind : GateKind) → (kind ≡ Or) ⊎ (kind ≡ Nor) → (x : Tri) → is_zero x ≡ not (in_the_way kind x)
free_of_or kind is x = elim is [
  | inl e ↦ sym (ap (λ (k : GateKind). not (in_the_way k x)) e ∙ not_not (is_zero x))
  | inr e ↦ sym (ap (λ (k : GateKind). not (in_the_way k x)) e ∙ not_not (is_zero x))
]

pub free_of_xor : (kind : GateKind) → (kind ≡ Xor) ⊎ (kind ≡ Xnor) → (x : Tri) → not (is_unknown x) ≡ not (in_the_way kind x)
free_of_xor kind is x = elim is [
  | inl e ↦ sym (ap (λ (k : GateKind). not (in_the_way k x)) e)
  | inr e ↦ sym (ap (λ (k : GateKind). not (in_the_way k x)) e)
]

free_of_not : (kind : GateKind) → (kind ≡ Not) ⊎ (kind ≡ Buf) → (x : Tri) → true ≡ not (in_the_way kind x)
free_of_not kind is x = elim is [
  | inl e ↦ sym (ap (λ (k : GateKind). not (in_the_way k x)) e)
  | inr e ↦ sym (ap (λ (k : GateKind). not (in_the_way k x)) e)
]

all_always : (lanes : Bool) (pins : List Pin) → lanes ≡ (lanes && list_all (λ (pin : Pin). true) pins)
all_always true [] = refl
all_always true (pin ∷ pins) = all_always true pins
all_always false pins = refl

-- where there is one operand no other is in its way
pub sensed_alone : (kind : GateKind) → (kind ≡ Not) ⊎ (kind ≡ Buf) → (value : ℕ → Tri) (nets : List ℕ) (own : ℕ) (front behind : List Pin)
    → nets ≡ map (λ pin. pin.net) front ++ own ∷ map (λ pin. pin.net) behind → (lanes : Bool) → lanes ≡ (lanes && senses_of kind (map value nets) (value own))
sensed_alone kind is value nets own front behind around lanes =
    sensed_in_parts kind value (λ pin. true) (λ pin. free_of_not kind is (value pin.net)) nets own front behind around lanes lanes lanes (all_always lanes front) (all_always lanes behind)
