-- Lines with the four markers in their order, and no other line that begins with `%`, break rule 81 nowhere.
use Rattle.std.proofs.Common.{◌≡◌, ℕ, suc, ◌+◌, ◌<◌, Bool, true, false, not, ◌&&◌, ◌||◌, cond, eqb, List, [], ◌∷◌, ◌++◌, length, Some, None, refl, ap, subst, ◌∙◌, append_assoc, append-nil, length-append, arith}
use Rattle.std.specs.Prelude.{filter, slice_index_or, codes}
use Rattle.std.specs.List.{All}
use Rattle.std.specs.Str.{bytes_eq}
use Rattle.std.proofs.Math.Seq.{get_or-append_seam, take-append_seam}
use Rattle.std.proofs.lemmas.Bool.Decides.{nat_tests}
use Rattle.std.proofs.lemmas.List.Elements.{All-head, All-tail, filter-append}
use Rattle.scan_model.specs.TextFaults.{fault_from}
use Rattle.scan_model.specs.declared.rules.TheConstants.{WRONG_MARK}
use Rattle.design_bundle.specs.Bundle.{is_mark, markers, marker_after, bundle_rule}

abbrev pub IsUnmarked : List (List ℕ) → Type 0
IsUnmarked ls = All (λ line. is_mark line ≡ false) ls

-- the lines from `after` on break no rule, in a text that begins with `before`
abbrev GoesOn : List (List ℕ) → List (List ℕ) → Type 0
GoesOn before after = fault_from (bundle_rule (before ++ after)) (length before) (length after + 1) ≡ None

-- they break none in any text that begins with so many markers
abbrev pub AreInOrder : ℕ → List (List ℕ) → Type 0
AreInOrder n after = (before : List (List ℕ)) → 0 < length before → length (filter is_mark before) ≡ n → GoesOn before after

differs : (i n : ℕ) → i < n → eqb i n ≡ false
differs i n lt = grind (arith, nat_tests)

same : (n : ℕ) → eqb n n ≡ true
same n = grind (arith, nat_tests)

filled : (n : ℕ) → 0 < n → eqb n 0 ≡ false
filled n lt = grind (arith, nat_tests)

and_false : (b : Bool) → (b && false) ≡ false
and_false true = refl
and_false false = refl

-- ---- one line

module _ (before : List (List ℕ)) (line : List ℕ) (after : List (List ℕ)) where
  rule_here : bundle_rule (before ++ line ∷ after) (length before)
      ≡ cond ((is_mark line || eqb (length before) 0) && not (bytes_eq line (marker_after before))) (Some WRONG_MARK) None
  rule_here =
      let lt : length before < length (before ++ line ∷ after) = omega (arith, length-append before (line ∷ after)) in
      rw (differs (length before) (length (before ++ line ∷ after)) lt, get_or-append_seam before line after [], take-append_seam before (line ∷ after)) refl

  one_more : bundle_rule (before ++ line ∷ after) (length before) ≡ None → GoesOn (before ++ line ∷ []) after → GoesOn before (line ∷ after)
  one_more none more =
      let n : length (line ∷ after) + 1 ≡ suc (length after + 1) = omega arith in
      let i : length (before ++ line ∷ []) ≡ length before + 1 = length-append before (line ∷ []) in
      let whole : (before ++ line ∷ []) ++ after ≡ before ++ line ∷ after = append_assoc before (line ∷ []) after in
      rw (n, none) (rw (whole, i) at more)

  marker_here : bytes_eq line (marker_after before) ≡ true → GoesOn (before ++ line ∷ []) after → GoesOn before (line ∷ after)
  marker_here due more = one_more (rule_here ∙ ap (λ b. cond ((is_mark line || eqb (length before) 0) && not b) (Some WRONG_MARK) None) due ∙ ap (λ b. cond b (Some WRONG_MARK) None) (and_false (is_mark line || eqb (length before) 0))) more

  other_here : 0 < length before → is_mark line ≡ false → GoesOn (before ++ line ∷ []) after → GoesOn before (line ∷ after)
  other_here some unmarked more = one_more (rule_here ∙ rw (unmarked, filled (length before) some) refl) more

-- ---- lines in order

no_more : AreInOrder 4 []
no_more before some n = rw (append-nil before, same (length before), n) refl

unmarked_lines : (n : ℕ) (ls after : List (List ℕ)) → IsUnmarked ls → AreInOrder n after → AreInOrder n (ls ++ after)
unmarked_lines n [] after unmarked then = then
unmarked_lines n (l ∷ ls) after unmarked then = λ before some count.
    let here : is_mark l ≡ false = All-head (λ line. is_mark line ≡ false) l ls unmarked in
    let longer : 0 < length (before ++ l ∷ []) = omega (arith, length-append before (l ∷ [])) in
    let kept : filter is_mark (before ++ l ∷ []) ≡ filter is_mark before = filter-append is_mark before (l ∷ []) ∙ ap (λ b. filter is_mark before ++ cond b (l ∷ []) []) here ∙ append-nil (filter is_mark before) in
    other_here before l (ls ++ after) some here (unmarked_lines n ls after (All-tail (λ line. is_mark line ≡ false) l ls unmarked) then (before ++ l ∷ []) longer (ap length kept ∙ count))

last_lines : (ls : List (List ℕ)) → IsUnmarked ls → AreInOrder 4 ls
last_lines ls unmarked = subst (AreInOrder 4) (append-nil ls) (unmarked_lines 4 ls [] unmarked no_more)

marker_line : (n : ℕ) (line : List ℕ) (after : List (List ℕ)) → bytes_eq line (slice_index_or markers n []) ≡ true → is_mark line ≡ true → AreInOrder (n + 1) after → AreInOrder n (line ∷ after)
marker_line n line after due marked then = λ before some count.
    let longer : 0 < length (before ++ line ∷ []) = omega (arith, length-append before (line ∷ [])) in
    let kept : filter is_mark (before ++ line ∷ []) ≡ filter is_mark before ++ line ∷ [] = filter-append is_mark before (line ∷ []) ∙ ap (λ b. filter is_mark before ++ cond b (line ∷ []) []) marked in
    let counted : length (filter is_mark (before ++ line ∷ [])) ≡ n + 1 = ap length kept ∙ length-append (filter is_mark before) (line ∷ []) ∙ ap (λ k. k + 1) count in
    marker_here before line after (ap (λ k. bytes_eq line (slice_index_or markers k [])) count ∙ due) (then (before ++ line ∷ []) longer counted)

-- the lines of a bundle of texts with these lines
abbrev pub bundle_lines : List (List ℕ) → List (List ℕ) → List (List ℕ) → List (List ℕ) → List (List ℕ)
bundle_lines netlist scan patterns neighbours =
    codes "%netlist" ∷ (netlist ++ (codes "%scan" ∷ (scan ++ (codes "%patterns" ∷ (patterns ++ (codes "%neighbours" ∷ neighbours))))))

pub markers_in_order : (netlist scan patterns neighbours : List (List ℕ)) → IsUnmarked netlist → IsUnmarked scan → IsUnmarked patterns → IsUnmarked neighbours
    → fault_from (bundle_rule (bundle_lines netlist scan patterns neighbours)) 0 (length (bundle_lines netlist scan patterns neighbours) + 1) ≡ None
markers_in_order netlist scan patterns neighbours n s p g =
    let fourth = marker_line 3 (codes "%neighbours") neighbours refl refl (last_lines neighbours g) in
    let third = marker_line 2 (codes "%patterns") (patterns ++ (codes "%neighbours" ∷ neighbours)) refl refl (unmarked_lines 3 patterns _ p fourth) in
    let second = marker_line 1 (codes "%scan") (scan ++ (codes "%patterns" ∷ (patterns ++ (codes "%neighbours" ∷ neighbours)))) refl refl (unmarked_lines 2 scan _ s third) in
    let first = unmarked_lines 1 netlist (codes "%scan" ∷ (scan ++ (codes "%patterns" ∷ (patterns ++ (codes "%neighbours" ∷ neighbours))))) n second in
    marker_here [] (codes "%netlist") (netlist ++ (codes "%scan" ∷ (scan ++ (codes "%patterns" ∷ (patterns ++ (codes "%neighbours" ∷ neighbours)))))) refl (first (codes "%netlist" ∷ []) (omega arith) refl)
