-- Pairs that are kept and left out.
use Rattle.std.proofs.Common.{◌≡◌, ℕ, ◌+◌, ◌<◌, Bool, true, false, not, cond, List, [], ◌∷◌, ◌++◌, length, get_or, take, refl, sym, ap, ◌∙◌, arith}
use Rattle.std.specs.Prelude.{filter}
use Rattle.std.specs.List.{IsDistinct, AllPairs}
use Rattle.std.proofs.lemmas.Bool.{not-true, or_parts}
use Rattle.std.proofs.lemmas.List.Elements.{All-filter, All-weaker, filter_more, filter_passes}
use Rattle.std.proofs.lemmas.List.Filters.{length-filter_both}
use Rattle.std.proofs.lemmas.List.Kept.{AllPairs-filter}
use Rattle.std.proofs.lemmas.Map.Keys.{apart_from_distinct, IsDistinct-from_apart}
use Rattle.scan_model.specs.declared.parts.Pair.{Pair}
use Rattle.scan_model.specs.Netlist.{Netlist}
use Rattle.scan_model.specs.Cone.{in_fan_in}
use Rattle.scan_model.specs.ScanTest.{same_pair, IsNoFeedback, ArePairs}
use Rattle.bridge_pairs.specs.PairText.{is_feedback, parted}
use Rattle.bridge_pairs.specs.NamedPairs.{AreNamed}

kept_one : (b : Bool) (p : Pair) → cond (not b) (p ∷ []) [] ≡ cond b [] (p ∷ [])
kept_one true p = refl
kept_one false p = refl

-- one more pair

pub left_out_more : (test : Pair → Bool) (pairs : List Pair) (i : ℕ) (d : Pair) (b : Bool) (old new : List Pair) → i < length pairs → b ≡ test (get_or pairs i d)
    → old ≡ filter test (take i pairs) → new ≡ old ++ cond b (get_or pairs i d ∷ []) [] → new ≡ filter test (take (i + 1) pairs)
left_out_more test pairs i d b old new lt tested so_far pushed =
    let last : List Pair = get_or pairs i d ∷ [] in
    let here : filter test (take (i + 1) pairs) ≡ filter test (take i pairs) ++ cond b last [] = filter_more test pairs i d lt ∙ ap (λ x. filter test (take i pairs) ++ cond x last []) (sym tested) in
    pushed ∙ ap (λ xs. xs ++ cond b last []) so_far ∙ sym here

pub kept_more : (test : Pair → Bool) (pairs : List Pair) (i : ℕ) (d : Pair) (b : Bool) (old new : List Pair) → i < length pairs → b ≡ test (get_or pairs i d)
    → old ≡ filter (λ q. not (test q)) (take i pairs) → new ≡ old ++ cond b [] (get_or pairs i d ∷ []) → new ≡ filter (λ q. not (test q)) (take (i + 1) pairs)
kept_more test pairs i d b old new lt tested so_far pushed =
    left_out_more (λ q. not (test q)) pairs i d (not b) old new lt (ap not tested) so_far (pushed ∙ ap (λ xs. old ++ xs) (sym (kept_one b (get_or pairs i d))))

-- the pairs of a list, parted, fit the circuit

no_feedback_kept : (c : Netlist) (p : Pair) → not (is_feedback c p) ≡ true → IsNoFeedback c p
no_feedback_kept c p e =
    let both = or_parts (in_fan_in c p.a p.b) (in_fan_in c p.b p.a) (not-true (is_feedback c p) e) in
    record { a_of_b = both.0; b_of_a = both.1 }

distinct_filter : (test : Pair → Bool) (pairs : List Pair) → IsDistinct same_pair pairs → IsDistinct same_pair (filter test pairs)
distinct_filter test pairs distinct =
    let apart : AllPairs (λ p q. same_pair p q ≡ false) pairs = λ i j d lt lt'. apart_from_distinct same_pair pairs i j d distinct lt lt' in
    IsDistinct-from_apart same_pair (filter test pairs) (AllPairs-filter (λ p q. same_pair p q ≡ false) test pairs apart)

pub parted_fit : (c : Netlist) (pairs : List Pair) → AreNamed (length c.nets) pairs → ArePairs c (parted c pairs)
parted_fit c pairs named = record {
  kept_nets = All-filter (λ p. not (is_feedback c p)) (λ p. (p.a < length c.nets) × (p.b < length c.nets)) pairs named.within;
  left_out_nets = All-filter (is_feedback c) (λ p. (p.a < length c.nets) × (p.b < length c.nets)) pairs named.within;
  differ = distinct_filter (λ p. not (is_feedback c p)) pairs named.differ;
  no_feedback = All-weaker (λ p. not (is_feedback c p) ≡ true) (IsNoFeedback c) (no_feedback_kept c) (filter (λ p. not (is_feedback c p)) pairs) (filter_passes (λ p. not (is_feedback c p)) pairs);
  few = omega (arith, named.few, length-filter_both (is_feedback c) (λ p. not (is_feedback c p)) (λ p. refl) pairs);
}
