-- One more line of a pattern text.
use Rattle.std.proofs.Common.{◌≡◌, ℕ, ◌+◌, ◌-◌, ◌<◌, false, true, eqb, List, [], ◌∷◌, ◌++◌, length, take, map, get_or, Some, None, Ok, Err, refl, sym, ap, ◌∙◌, arith, Bor}
use Rattle.std.specs.Prelude.{filter}
use Rattle.std.proofs.lemmas.Bool.Decides.{nat_tests}
use Rattle.std.proofs.lemmas.List.{take_more, map-append, length-map, get_or-map, take_all}
use Rattle.std.proofs.lemmas.List.Elements.{filter-append}
use Rattle.scan_model.specs.declared.parts.Pattern.{Pattern}
use Rattle.scan_model.specs.Lines.{line_at}
use Rattle.scan_model.specs.Words.{words, word_lines, has_words}
use Rattle.scan_model.specs.TextFaults.{lowest, fault_from, first_fault, refused_or}
use Rattle.scan_model.specs.declared.rules.TheConstants.{NO_PATTERN}
use Rattle.scan_model.specs.PatternText.{PatternFrame, pattern_lines, pattern_rules, pattern_end_rules, pattern_rule, line_pattern, patterns_of}
use Rattle.scan_model.proofs.FaultSteps.{fault_goes_on, fault_is_here, fault_is_none}
use Rattle.text_parts.specs.Views.{nows}

differs : (i n : ℕ) → i < n → eqb i n ≡ false
differs i n lt = grind (arith, nat_tests)

same : (n : ℕ) → eqb n n ≡ true
same n = grind (arith, nat_tests)

patterns_append : (frame : PatternFrame) (xs ys : List (List ℕ)) → patterns_of frame (xs ++ ys) ≡ patterns_of frame xs ++ patterns_of frame ys
patterns_append frame xs ys =
    ap (λ ls. map (line_pattern frame) (filter has_words ls)) (map-append words xs ys)
    ∙ ap (map (line_pattern frame)) (filter-append has_words (word_lines xs) (word_lines ys))
    ∙ map-append (line_pattern frame) (pattern_lines xs) (pattern_lines ys)

module _ (frame : PatternFrame) (ls : List (List ℕ)) (items : List (Bor (List ℕ))) (i : ℕ) (d : Bor (List ℕ)) (kept : List Pattern)
    (all : nows items ≡ ls)
    (so_far : fault_from (pattern_rule frame ls) i ((length ls + 1) - i) ≡ first_fault (pattern_rule frame ls) (length ls + 1))
    (after : kept ≡ patterns_of frame (take i ls)) where
  lines_length : length items ≡ length ls
  lines_length = sym (length-map items (λ x. x.now)) ∙ ap length all

  line_is : i < length items → (get_or items i d).now ≡ line_at ls i
  line_is lt = sym (get_or-map (λ x. x.now) items i d [] lt) ∙ ap (λ ts. line_at ts i) all

  count_is : length kept ≡ length (pattern_lines (take i ls))
  count_is = ap length after ∙ length-map (pattern_lines (take i ls)) (line_pattern frame)

  rule_is : i < length items → lowest (pattern_rules frame (length kept) (get_or items i d).now) ≡ pattern_rule frame ls i
  rule_is lt =
      let lt' : i < length ls = omega (arith, lines_length) in
      rw (count_is, line_is lt, differs i (length ls) lt') refl

  pub line_is_faulty : (r : ℕ) → i < length items → Some r ≡ lowest (pattern_rules frame (length kept) (get_or items i d).now) → refused_or (first_fault (pattern_rule frame ls) (length ls + 1)) (patterns_of frame ls) ≡ Err (i + 1, r)
  line_is_faulty r lt some =
      let lt' : i < length ls + 1 = omega (arith, lines_length) in
      ap (λ f. refused_or f (patterns_of frame ls)) (fault_is_here (pattern_rule frame ls) (length ls + 1) i (first_fault (pattern_rule frame ls) (length ls + 1)) r lt' (sym (some ∙ rule_is lt)) so_far)

  pub no_fault_more : i < length items → None ≡ lowest (pattern_rules frame (length kept) (get_or items i d).now)
      → fault_from (pattern_rule frame ls) (i + 1) ((length ls + 1) - (i + 1)) ≡ first_fault (pattern_rule frame ls) (length ls + 1)
  no_fault_more lt none =
      let lt' : i < length ls + 1 = omega (arith, lines_length) in
      fault_goes_on (pattern_rule frame ls) (length ls + 1) i (first_fault (pattern_rule frame ls) (length ls + 1)) lt' (sym (none ∙ rule_is lt)) so_far

  pub after_more : i < length items → kept ++ patterns_of frame ((get_or items i d).now ∷ []) ≡ patterns_of frame (take (i + 1) ls)
  after_more lt =
      let lt' : i < length ls = omega (arith, lines_length) in
      ap (λ ps. ps ++ patterns_of frame ((get_or items i d).now ∷ [])) after
      ∙ ap (λ line. patterns_of frame (take i ls) ++ patterns_of frame (line ∷ [])) (line_is lt)
      ∙ sym (patterns_append frame (take i ls) (line_at ls i ∷ []))
      ∙ ap (patterns_of frame) (sym (take_more ls i [] lt'))

  end_is : i ≡ length items → lowest (pattern_end_rules (length kept)) ≡ pattern_rule frame ls i
  end_is done =
      let n : i ≡ length ls = omega (arith, lines_length) in
      let whole : take i ls ≡ ls = take_all i ls (omega arith) in
      rw (count_is, whole, n, same (length ls)) refl

  -- past the last line
  pub end_is_faulty : i ≡ length items → eqb (length kept) 0 ≡ true → refused_or (first_fault (pattern_rule frame ls) (length ls + 1)) (patterns_of frame ls) ≡ Err (length items + 1, NO_PATTERN)
  end_is_faulty done empty =
      let lt' : i < length ls + 1 = omega (arith, lines_length) in
      let broken : lowest (pattern_end_rules (length kept)) ≡ Some NO_PATTERN = rw empty refl in
      ap (λ f. refused_or f (patterns_of frame ls)) (fault_is_here (pattern_rule frame ls) (length ls + 1) i (first_fault (pattern_rule frame ls) (length ls + 1)) 26 lt' (sym (end_is done) ∙ broken) so_far)
      ∙ ap (λ k. Err (k + 1, NO_PATTERN)) done

  pub text_is_whole : i ≡ length items → eqb (length kept) 0 ≡ false → refused_or (first_fault (pattern_rule frame ls) (length ls + 1)) (patterns_of frame ls) ≡ Ok kept
  text_is_whole done filled =
      let lt' : i < length ls + 1 = omega (arith, lines_length) in
      let whole : take i ls ≡ ls = take_all i ls (omega (arith, lines_length)) in
      let none : lowest (pattern_end_rules (length kept)) ≡ None = rw filled refl in
      let past = fault_goes_on (pattern_rule frame ls) (length ls + 1) i (first_fault (pattern_rule frame ls) (length ls + 1)) lt' (sym (end_is done) ∙ none) so_far in
      ap (λ f. refused_or f (patterns_of frame ls)) (fault_is_none (pattern_rule frame ls) (length ls + 1) (i + 1) (first_fault (pattern_rule frame ls) (length ls + 1)) (omega (arith, lines_length)) past)
      ∙ ap Ok (ap (patterns_of frame) (sym whole) ∙ sym after)
