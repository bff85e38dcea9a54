-- The pattern text that the generator makes breaks no rule.
use Rattle.std.proofs.Common.{◌≡◌, ℕ, zero, suc, ◌+◌, ◌*◌, ◌<◌, ◌≤◌, Bool, true, false, not, ◌&&◌, ◌||◌, cond, leb, ltb, eqb, List, [], ◌∷◌, length, map, take, codes, is_some, Option, None, Ok, refl, sym, ap, ap₂, ◌∙◌, inl, inr, arith}
use Rattle.std.specs.Prelude.{flat_map, filter}
use Rattle.std.specs.List.{range_with_len}
use Rattle.std.proofs.lemmas.Bool.{cases_lt, and_right, eq-eqb}
use Rattle.std.proofs.lemmas.Bool.Decides.{nat_tests}
use Rattle.std.proofs.lemmas.List.{length-map}
use Rattle.std.proofs.lemmas.List.FromFn.{length-range_with_len}
use Rattle.scan_model.specs.Lines.{text_lines, line_at}
use Rattle.scan_model.specs.Words.{word_lines, has_words}
use Rattle.scan_model.specs.TextFaults.{lowest, fault_from, first_fault, refused_or}
use Rattle.scan_model.specs.declared.rules.TheConstants.{OTHER_KEYWORD, WRONG_WORDS, WRONG_LENGTH, OTHER_VALUE, TOO_MANY_PATTERNS, NO_PATTERN}
use Rattle.scan_model.specs.ReportText.{spaced}
use Rattle.scan_model.specs.declared.parts.Pattern.{Pattern}
use Rattle.scan_model.specs.PatternText.{PatternFrame, kind_of, has_wrong_words, has_wrong_length, has_other_value, pattern_lines, pattern_rules, pattern_end_rules, pattern_limit, pattern_rule, line_pattern, patterns_of, pattern_reading}
use Rattle.scan_model.proofs.FaultSteps.{fault_from_none}
use Rattle.diag_report.proofs.PlainWords.{IsLine}
use Rattle.made_laws.specs.MadeScan.{chain_count, chain_blocks}
use Rattle.made_laws.specs.MadePatterns.{first_draw, pattern_line, made_patterns}
use Rattle.made_laws.proofs.WordTexts.{concatenated_range, text_is, line_count, words_before, all_words, words_here, accepted_here}
use Rattle.made_laws.proofs.PatternWords.{digit_values, digit_count, shift_words, capture_words, pattern_words, of_words, line_is, is_line, load_count, loads_fit, loads_valued}

-- what the patterns are for
abbrev pub made_frame : ℕ → PatternFrame
made_frame blocks = record { inputs = 10 * blocks; lengths = map (λ h. 5 * chain_blocks blocks h) (range_with_len 0 (chain_count blocks)); keyword = codes "CAPTURE"; shifts = true }

none_of_five : (p q r s t : Bool) → p ≡ false → q ≡ false → r ≡ false → s ≡ false → t ≡ false → lowest ((OTHER_KEYWORD, p) ∷ (WRONG_WORDS, q) ∷ (WRONG_LENGTH, r) ∷ (OTHER_VALUE, s) ∷ (TOO_MANY_PATTERNS, t) ∷ []) ≡ None
none_of_five p q r s t a b c d e = rw (a, b, c, d, e) refl

-- the rules of a line with words, after fewer patterns than may be
abbrev table : PatternFrame → ℕ → Bool → List (List ℕ) → List (ℕ × Bool)
table frame earlier refused ws =
    (OTHER_KEYWORD, refused || (has_words ws && not (is_some (kind_of frame ws)))) ∷
    (WRONG_WORDS, has_wrong_words frame (kind_of frame ws) ws) ∷
    (WRONG_LENGTH, has_wrong_length frame (kind_of frame ws) ws) ∷
    (OTHER_VALUE, has_other_value frame (kind_of frame ws) ws) ∷
    (TOO_MANY_PATTERNS, has_words ws && leb pattern_limit earlier) ∷ []

filtered : (wss : List (List (List ℕ))) → length (filter has_words wss) ≤ length wss
filtered [] = omega arith
filtered (ws ∷ wss) = go (has_words ws) (filtered wss)
  where
    go : (b : Bool) → length (filter has_words wss) ≤ length wss → length (cond b (ws ∷ filter has_words wss) (filter has_words wss)) ≤ length (ws ∷ wss)
    go true le = omega arith
    go false le = omega arith

module _ (seed blocks : ℕ) (some : 0 < blocks) (few : blocks ≤ 200) where
  abbrev frame : PatternFrame
  frame = made_frame blocks

  length_total : length frame.lengths ≡ chain_count blocks
  length_total = length-map (range_with_len 0 (chain_count blocks)) (λ h. 5 * chain_blocks blocks h) ∙ length-range_with_len 0 (chain_count blocks)

  few_before : (earlier : ℕ) → earlier ≤ 512 → leb 4096 earlier ≡ false
  few_before earlier le = grind (arith, nat_tests)

  last_rule : (ws : List (List ℕ)) (earlier : ℕ) → earlier ≤ 512 → (has_words ws && leb 4096 earlier) ≡ false
  last_rule ws earlier le = and_right (has_words ws) (leb 4096 earlier) (few_before earlier le)

  first_rule : (ws : List (List ℕ)) → (false || (has_words ws && false)) ≡ false
  first_rule ws = and_right (has_words ws) false refl

  shift_passes : (i earlier : ℕ) → earlier ≤ 512 → lowest (table frame earlier false (shift_words seed blocks i)) ≡ None
  shift_passes i earlier le =
      let size : eqb (length (shift_words seed blocks i)) (1 + length frame.lengths) ≡ true = eq-eqb _ _ (omega (arith, load_count seed blocks i, length_total)) in
      none_of_five _ _ _ _ _ (first_rule (shift_words seed blocks i)) (ap not size) (ap not (loads_fit seed blocks i)) (loads_valued seed blocks i) (last_rule (shift_words seed blocks i) earlier le)

  some_inputs : eqb (10 * blocks) 0 ≡ false
  some_inputs = grind (arith, nat_tests)

  capture_passes : (i earlier : ℕ) → earlier ≤ 512 → lowest (table frame earlier false (capture_words seed blocks i)) ≡ None
  capture_passes i earlier le =
      let ws : List (List ℕ) = capture_words seed blocks i in
      let size : eqb (length ws) (2 + length frame.lengths) ≡ true = eq-eqb _ _ (omega (arith, load_count seed blocks (i + 10 * blocks), length_total)) in
      none_of_five _ _ _ _ _ (first_rule ws) (ap not size)
      (rw (some_inputs, digit_count seed i (10 * blocks), eq-eqb (10 * blocks) (10 * blocks) refl, loads_fit seed blocks (i + 10 * blocks)) refl)
      (rw (digit_values seed i (10 * blocks), and_right (ltb 0 (10 * blocks)) false refl) (loads_valued seed blocks (i + 10 * blocks)))
      (last_rule ws earlier le)

  passes : (p earlier : ℕ) → earlier ≤ 512 → lowest (table frame earlier false (pattern_words seed blocks p)) ≡ None
  passes p earlier le =
      of_words (λ ws. lowest (table frame earlier false ws) ≡ None) seed blocks p (shift_passes (first_draw blocks p) earlier le) (capture_passes (first_draw blocks p) earlier le)

  -- ---- so many lines

  module _ (n : ℕ) (more : 0 < n) (less : n ≤ 512) where
    each_line : (x : ℕ) → x < n → IsLine (pattern_words seed blocks x)
    each_line x lt = is_line seed blocks some few x

    abbrev ls : List (List ℕ)
    ls = map (λ p. spaced (pattern_words seed blocks p)) (range_with_len 0 n)

    count_before : (i : ℕ) → i ≤ n → length (pattern_lines (take i ls)) ≤ 512
    count_before i le =
        let before : word_lines (take i ls) ≡ map (pattern_words seed blocks) (range_with_len 0 i) = words_before (pattern_words seed blocks) n each_line i le in
        omega (arith, ap (λ (wss : List (List (List ℕ))). length (filter has_words wss)) before, filtered (map (pattern_words seed blocks) (range_with_len 0 i)), length-map (range_with_len 0 i) (pattern_words seed blocks), length-range_with_len 0 i)

    filled : (a m : ℕ) → filter has_words (map (pattern_words seed blocks) (range_with_len a m)) ≡ map (pattern_words seed blocks) (range_with_len a m)
    filled a zero = refl
    filled a (suc m) =
        ap (λ (b : Bool). cond b (pattern_words seed blocks a ∷ filter has_words (map (pattern_words seed blocks) (range_with_len (a + 1) m))) (filter has_words (map (pattern_words seed blocks) (range_with_len (a + 1) m)))) (is_line seed blocks some few a).0
        ∙ ap (λ (wss : List (List (List ℕ))). pattern_words seed blocks a ∷ wss) (filled (a + 1) m)

    all_patterns : pattern_lines ls ≡ map (pattern_words seed blocks) (range_with_len 0 n)
    all_patterns = ap (filter has_words) (all_words (pattern_words seed blocks) n each_line) ∙ filled 0 n

    rule_within : (i : ℕ) → i < n → pattern_rule frame ls i ≡ None
    rule_within i lt =
        let count : length ls ≡ n = line_count (pattern_words seed blocks) n each_line in
        let within : eqb i (length ls) ≡ false = grind (arith, nat_tests) in
        let earlier : ℕ = length (pattern_lines (take i ls)) in
        let l : List ℕ = line_at ls i in
        ap (λ (b : Bool). lowest (cond b (pattern_end_rules (length (pattern_lines ls))) (pattern_rules frame earlier l))) within
        ∙ ap₂ (λ (b : Bool) (ws : List (List ℕ)). lowest (table frame earlier b ws)) (accepted_here (pattern_words seed blocks) n each_line i lt) (words_here (pattern_words seed blocks) n each_line i lt)
        ∙ passes i earlier (count_before i (omega arith))

    rule_past : (i : ℕ) → i ≡ n → pattern_rule frame ls i ≡ None
    rule_past i is =
        let count : length ls ≡ n = line_count (pattern_words seed blocks) n each_line in
        let past : eqb i (length ls) ≡ true = grind (arith, nat_tests) in
        let total : length (pattern_lines ls) ≡ n = ap length all_patterns ∙ length-map (range_with_len 0 n) (pattern_words seed blocks) ∙ length-range_with_len 0 n in
        let there : eqb (length (pattern_lines ls)) 0 ≡ false = grind (arith, nat_tests) in
        ap (λ (b : Bool). lowest (cond b (pattern_end_rules (length (pattern_lines ls))) (pattern_rules frame (length (pattern_lines (take i ls))) (line_at ls i)))) past
        ∙ ap (λ (b : Bool). lowest ((NO_PATTERN, b) ∷ [])) there

    rule_at : (i : ℕ) → i < n + 1 → pattern_rule frame ls i ≡ None
    rule_at i lt = elim (cases_lt i n) [ inl below ↦ rule_within i below | inr past ↦ rule_past i (omega arith) ]

    pub loads_stand : pattern_reading frame (flat_map (pattern_line seed blocks) (range_with_len 0 n)) ≡ Ok (map (line_pattern frame) (map (pattern_words seed blocks) (range_with_len 0 n)))
    loads_stand =
        let count : length ls ≡ n = line_count (pattern_words seed blocks) n each_line in
        let lines : text_lines (flat_map (pattern_line seed blocks) (range_with_len 0 n)) ≡ ls =
        ap text_lines (sym (concatenated_range (pattern_words seed blocks) (pattern_line seed blocks) (line_is seed blocks) 0 n)) ∙ text_is (pattern_words seed blocks) n each_line in
        let none : first_fault (pattern_rule frame ls) (length ls + 1) ≡ None =
        ap (λ (k : ℕ). fault_from (pattern_rule frame ls) 0 (k + 1)) count ∙ fault_from_none (pattern_rule frame ls) 0 (n + 1) (λ k low high. rule_at k (omega arith)) in
        ap (λ (xs : List (List ℕ)). refused_or (first_fault (pattern_rule frame xs) (length xs + 1)) (patterns_of frame xs)) lines
        ∙ ap (λ (o : Option (ℕ × ℕ)). refused_or o (patterns_of frame ls)) none
        ∙ ap (λ (wss : List (List (List ℕ))). Ok (map (line_pattern frame) wss)) all_patterns

  pub patterns_stand : (ps : List Pattern) × (pattern_reading frame (made_patterns seed blocks) ≡ Ok ps)
  patterns_stand = (map (line_pattern frame) (map (pattern_words seed blocks) (range_with_len 0 512)), loads_stand 512 (omega arith) (omega arith))
