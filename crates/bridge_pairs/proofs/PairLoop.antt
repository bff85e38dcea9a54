-- One more record of a list of pairs.
use Rattle.std.proofs.Common.{◌≡◌, ℕ, ◌+◌, ◌-◌, ◌<◌, ◌≤◌, Bool, true, false, not, cond, ◌&&◌, List, [], ◌∷◌, ◌++◌, length, map, get_or, Option, Some, None, Ok, Err, is_some, refl, sym, ap, ◌∙◌, arith, add-one}
use Rattle.std.specs.Prelude.{nat_lt, nat_le, bytes_eq}
use Rattle.std.specs.List.{IsDistinct, AllByRecursion}
use Rattle.std.proofs.lemmas.Bool.{not-false, or_parts, ltb-true, leb-false}
use Rattle.std.proofs.lemmas.List.{get_or-map, length-map, length-append}
use Rattle.std.proofs.lemmas.List.Elements.{All-nil, All-push}
use Rattle.csv.specs.Records.{Row, fields_of}
use Rattle.scan_model.specs.declared.parts.Pair.{Pair}
use Rattle.scan_model.specs.Words.{has_word}
use Rattle.scan_model.specs.TextFaults.{lowest, fault_from, refused_or}
use Rattle.scan_model.specs.declared.rules.TheConstants.{OTHER_PAIR_FORM, NAMES_NO_NET, NAMES_ONE_NET, TOO_MANY_PAIRS}
use Rattle.scan_model.specs.NetlistText.{net_number}
use Rattle.scan_model.specs.ScanTest.{same_pair}
use Rattle.scan_model.proofs.FaultSteps.{fault_goes_on, fault_is_here, fault_is_none}
use Rattle.text_parts.proofs.Places.{any_position}
use Rattle.bridge_pairs.specs.PairText.{TwoNames, trimmed, record_at, nets_named, has_other_form, numbered, is_named, with_pair, pairs_before, pairs_in, pair_rules, pair_rule, pairs_fault, naming, names_no_net, names_one_net, names_too_many, pair_limit}
use Rattle.bridge_pairs.specs.NamedPairs.{AreNamed}

pub none_named : (nets : ℕ) → AreNamed nets []
unfolding IsDistinct
none_named nets = record { within = All-nil _; differ = tt; few = omega arith }

-- ---- one more pair

apart_push : (q p : Pair) (xs : List Pair) → same_pair q p ≡ false → AllByRecursion (λ y. same_pair q y ≡ false) xs → AllByRecursion (λ y. same_pair q y ≡ false) (xs ++ p ∷ [])
apart_push q p [] new apart = (new, tt)
apart_push q p (x ∷ xs) new apart = (apart.0, apart_push q p xs new apart.1)

distinct_push : (pairs : List Pair) (p : Pair) → IsDistinct same_pair pairs → is_named pairs p ≡ false → IsDistinct same_pair (pairs ++ p ∷ [])
unfolding IsDistinct
distinct_push [] p distinct new = (tt, tt)
distinct_push (q ∷ pairs) p distinct new =
    let both = or_parts (same_pair q p) (is_named pairs p) new in
    (apart_push q p pairs both.0 distinct.0, distinct_push pairs p distinct.1 both.1)

-- a table of four rules of which none is broken
none_broken : (i j k l : ℕ) (p q r s : Bool) → None ≡ lowest ((i, p) ∷ (j, q) ∷ (k, r) ∷ (l, s) ∷ []) → (p ≡ false) × (q ≡ false) × (r ≡ false) × (s ≡ false)
none_broken i j k l true q r s e = absurd cc
none_broken i j k l false true r s e = absurd cc
none_broken i j k l false false true s e = absurd cc
none_broken i j k l false false false true e = absurd cc
none_broken i j k l false false false false e = (refl, refl, refl, refl)

some_below : (b : Bool) (i : ℕ) → is_some (cond b (Some i) None) ≡ true → b ≡ true
some_below true i e = refl
some_below false i e = absurd cc

-- the number of a name that is there
number_within : (names : List (List ℕ)) (w : List ℕ) → not (has_word names w) ≡ false → net_number names w < length names
number_within names w e =
    let place = net_number names w in
    ltb-true place (length names) (some_below (nat_lt place (length names)) place (any_position (bytes_eq w) names ∙ not-false (has_word names w) e))

pair_named : (names : List (List ℕ)) (seen : List Pair) (i : ℕ) (n : TwoNames) → AreNamed (length names) seen → names_no_net names (Some n) ≡ false → names_too_many names seen i (Some n) ≡ false
    → (b : Bool) → is_named seen (numbered names i n) ≡ b → AreNamed (length names) (cond b seen (seen ++ numbered names i n ∷ []))
pair_named names seen i n named known few true again = named
pair_named names seen i n named known few false new =
    let p = numbered names i n in
    let both = or_parts (not (has_word names n.a)) (not (has_word names n.b)) known in
    let below : length seen < 65536 = leb-false 65536 (length seen) (room (is_named seen p) (nat_le pair_limit (length seen)) new few) in
    record {
      within = All-push (λ q. (q.a < length names) × (q.b < length names)) seen p named.within (number_within names n.a both.0, number_within names n.b both.1);
      differ = distinct_push seen p named.differ new;
      few = omega (arith, length-append seen (p ∷ []));
    }
  where
    room : (x y : Bool) → x ≡ false → (not x && y) ≡ false → y ≡ false
    room true y none e = absurd cc
    room false y none e = e

-- after one more record that breaks no rule
with_pair_named : (names : List (List ℕ)) (seen : List Pair) (i : ℕ) (form one : Bool) (o : Option TwoNames) → AreNamed (length names) seen
    → None ≡ lowest ((OTHER_PAIR_FORM, form) ∷ (NAMES_NO_NET, names_no_net names o) ∷ (NAMES_ONE_NET, one) ∷ (TOO_MANY_PAIRS, names_too_many names seen i o) ∷ []) → AreNamed (length names) (with_pair names seen i o)
with_pair_named names seen i form one None named none = named
with_pair_named names seen i form one (Some n) named none =
    let whole = none_broken 31 32 33 34 form (names_no_net names (Some n)) one (names_too_many names seen i (Some n)) none in
    pair_named names seen i n named whole.1 whole.3 (is_named seen (numbered names i n)) refl

-- ---- one more record

module _ (names : List (List ℕ)) (rows : List (List (List ℕ))) (items : List Row) (i : ℕ) (r : Row) (seen : List Pair)
    (is : r ≡ get_or items i r)
    (same : map (λ x. map trimmed (fields_of x)) items ≡ rows)
    (so_far : fault_from (pair_rule names rows) i (length rows - i) ≡ pairs_fault names rows)
    (after : seen ≡ pairs_before names rows i) where
  rows_length : length items ≡ length rows
  rows_length = sym (length-map items (λ x. map trimmed (fields_of x))) ∙ ap length same

  row_is : i < length items → map trimmed (fields_of r) ≡ record_at rows i
  row_is lt = ap (λ x. map trimmed (fields_of x)) is ∙ sym (get_or-map (λ x. map trimmed (fields_of x)) items i r [] lt) ∙ ap (λ rs. record_at rs i) same

  rule_is : i < length items → lowest (pair_rules names seen i (map trimmed (fields_of r))) ≡ pair_rule names rows i
  rule_is lt = ap (λ ps. lowest (pair_rules names ps i (map trimmed (fields_of r)))) after ∙ ap (λ fields. lowest (pair_rules names (pairs_before names rows i) i fields)) (row_is lt)

  -- the record has a fault
  pub record_is_faulty : (rule : ℕ) → i < length items → Some rule ≡ lowest (pair_rules names seen i (map trimmed (fields_of r))) → naming names rows ≡ Err (i + 1, rule)
  record_is_faulty rule lt some =
      let fault = fault_is_here (pair_rule names rows) (length rows) i (pairs_fault names rows) rule (omega (arith, rows_length)) (sym (some ∙ rule_is lt)) so_far in
      ap (λ f. refused_or f (pairs_in names rows)) fault

  -- the record has none
  pub no_fault_more : i < length items → None ≡ lowest (pair_rules names seen i (map trimmed (fields_of r))) → fault_from (pair_rule names rows) (i + 1) (length rows - (i + 1)) ≡ pairs_fault names rows
  no_fault_more lt none = fault_goes_on (pair_rule names rows) (length rows) i (pairs_fault names rows) (omega (arith, rows_length)) (sym (none ∙ rule_is lt)) so_far

  pub pairs_more : (new : List Pair) → i < length items → new ≡ with_pair names seen i (nets_named i (map trimmed (fields_of r))) → new ≡ pairs_before names rows (i + 1)
  pairs_more new lt taken =
      rw add-one (taken ∙ ap (λ ps. with_pair names ps i (nets_named i (map trimmed (fields_of r)))) after ∙ ap (λ fields. with_pair names (pairs_before names rows i) i (nets_named i fields)) (row_is lt))

  pub named_more : i < length items → None ≡ lowest (pair_rules names seen i (map trimmed (fields_of r))) → AreNamed (length names) seen
      → AreNamed (length names) (with_pair names seen i (nets_named i (map trimmed (fields_of r))))
  named_more lt none named =
      let fields = map trimmed (fields_of r) in
      with_pair_named names seen i (has_other_form i fields) (names_one_net names (nets_named i fields)) (nets_named i fields) named none

-- past the last record
pub list_is_whole : (names : List (List ℕ)) (rows : List (List (List ℕ))) (items : List Row) (i : ℕ) (seen : List Pair) → map (λ x. map trimmed (fields_of x)) items ≡ rows
    → fault_from (pair_rule names rows) i (length rows - i) ≡ pairs_fault names rows → seen ≡ pairs_before names rows i → length items ≤ i → i ≤ length items → naming names rows ≡ Ok seen
list_is_whole names rows items i seen same so_far after le ge =
    let count : length items ≡ length rows = sym (length-map items (λ x. map trimmed (fields_of x))) ∙ ap length same in
    let none = fault_is_none (pair_rule names rows) (length rows) i (pairs_fault names rows) (omega (arith, count)) so_far in
    let last : i ≡ length rows = omega (arith, count) in
    ap (λ f. refused_or f (pairs_in names rows)) none ∙ ap Ok (sym (after ∙ ap (pairs_before names rows) last))

-- the records, read and then trimmed
pub rows_trimmed : (items : List Row) (rows : List (List (List ℕ))) → map fields_of items ≡ rows → map (λ x. map trimmed (fields_of x)) items ≡ map (map trimmed) rows
rows_trimmed items rows is = both items ∙ ap (map (map trimmed)) is
  where
    both : (xs : List Row) → map (λ x. map trimmed (fields_of x)) xs ≡ map (map trimmed) (map fields_of xs)
    both [] = refl
    both (x ∷ xs) = ap (λ ys. map trimmed (fields_of x) ∷ ys) (both xs)
