-- The scan text that the generator makes breaks no rule: the chains that it stands for.
use Rattle.std.proofs.Common.{◌≡◌, ℕ, zero, suc, ◌+◌, ◌*◌, ◌<◌, ◌≤◌, Bool, true, false, not, ◌&&◌, ◌||◌, cond, leb, ltb, List, [], ◌∷◌, ◌++◌, length, map, take, is_some, is_none, Option, Some, None, Ok, refl, sym, ap, ap₂, subst, ◌∙◌, length-append, append_assoc, append-nil, arith}
use Rattle.std.specs.Prelude.{flat_map, codes, decimal}
use Rattle.std.specs.List.{AllByRecursion, list_any, list_all, range_with_len}
use Rattle.std.proofs.lemmas.Bool.{and_right}
use Rattle.std.proofs.lemmas.Bool.Decides.{nat_tests}
use Rattle.std.proofs.lemmas.List.{length-map}
use Rattle.std.proofs.lemmas.List.FromFn.{length-range_with_len}
use Rattle.scan_model.specs.Lines.{text_lines, line_at, has_refused_byte}
use Rattle.scan_model.specs.Words.{word_lines, has_words, has_word, is_name_byte, is_short, is_short_name, is_filled}
use Rattle.scan_model.specs.TextFaults.{lowest, fault_from, first_fault, refused_or}
use Rattle.scan_model.specs.declared.rules.TheConstants.{OTHER_CHAIN_FORM, UNKNOWN_CELL, NOT_A_FLOP, CHAIN_TAKEN, TOO_MANY_CHAINS}
use Rattle.scan_model.specs.ReportText.{spaced, line}
use Rattle.scan_model.specs.declared.circuit.Net.{Net}
use Rattle.scan_model.specs.declared.parts.Chain.{Chain}
use Rattle.scan_model.specs.ScanText.{ChainNames, chain_of, chains, cells_in, titles_in, cells_named, stands_again, is_taken, is_net, is_flop_net, scan_rules, scan_rule, numbered, chains_of, scan_reading, chain_limit}
use Rattle.scan_model.proofs.FaultSteps.{fault_from_none}
use Rattle.diag_report.proofs.PlainWords.{IsLine, AreNames}
use Rattle.made_laws.specs.MadeNetlist.{cell_name}
use Rattle.made_laws.specs.MadeScan.{chain_count, chain_blocks, cell_word, cell_words, chain_line, made_scan}
use Rattle.made_laws.proofs.Plans.{IsNetName, AreKeyed}
use Rattle.made_laws.proofs.Keyed.{keyed_append, keyed_new}
use Rattle.made_laws.proofs.MadeNames.{numbers_in, numbers_back, is_name, read_number, number_read, name_bytes, few_digits}
use Rattle.made_laws.proofs.PlanRanges.{all_range, flat_range}
use Rattle.made_laws.proofs.WordTexts.{spaced_is, concatenated_range, text_is, line_count, words_before, all_words, words_here, accepted_here}

-- ---- words

-- the cells of a block, and of the blocks of a chain
abbrev pub block_cells : ℕ → List (List ℕ)
block_cells b = flat_map (λ j. cell_name b j ∷ []) (range_with_len 0 5)

abbrev pub chain_cells : ℕ → ℕ → List (List ℕ)
chain_cells blocks h = flat_map block_cells (range_with_len (25 * h) (chain_blocks blocks h))

abbrev pub chain_title : ℕ → List ℕ
chain_title h = 99 ∷ decimal h

abbrev chain_words : ℕ → ℕ → List (List ℕ)
chain_words blocks h = codes "CHAIN" ∷ chain_title h ∷ chain_cells blocks h

abbrev pub made_chain : ℕ → ℕ → ChainNames
made_chain blocks h = record { name = chain_title h; cells = chain_cells blocks h }

cells_text : (blocks h : ℕ) → flat_map (λ v. 32 ∷ v) (chain_cells blocks h) ≡ flat_map cell_words (range_with_len (25 * h) (chain_blocks blocks h))
cells_text blocks h = flat_range (λ v. 32 ∷ v) block_cells cell_words (λ b. flat_range (λ v. 32 ∷ v) (λ j. cell_name b j ∷ []) (cell_word b) (λ j. append-nil (32 ∷ cell_name b j)) 0 5) (25 * h) (chain_blocks blocks h)

line_is : (blocks h : ℕ) → line (chain_words blocks h) ≡ chain_line blocks h
line_is blocks h =
    ap (λ (bs : List ℕ). (codes "CHAIN " ++ bs) ++ 10 ∷ []) (spaced_is (chain_title h) (chain_cells blocks h) ∙ ap (λ (bs : List ℕ). chain_title h ++ bs) (cells_text blocks h))
    ∙ ap (λ (bs : List ℕ). codes "CHAIN c" ++ bs) (append_assoc (decimal h) (flat_map cell_words (range_with_len (25 * h) (chain_blocks blocks h))) (10 ∷ []))

-- ---- names that are numbered up to a number

abbrev AreKeyedTo : (List ℕ → ℕ) → ℕ → List (List ℕ) → ℕ → Type 0
AreKeyedTo key m [] end = m ≡ end
AreKeyedTo key m (n ∷ ns) end = (key n ≡ m) × AreKeyedTo key (m + 1) ns end

module _ (key : List ℕ → ℕ) where
  keyed_to : (m : ℕ) (names : List (List ℕ)) (end : ℕ) → AreKeyedTo key m names end → AreKeyed key m names × (m + length names ≡ end)
  keyed_to m [] end to = (tt, omega (arith, to))
  keyed_to m (n ∷ ns) end to = let rest = keyed_to (m + 1) ns end to.1 in ((to.0, rest.0), omega (arith, rest.1))

  to_append : (m : ℕ) (xs ys : List (List ℕ)) (middle end : ℕ) → AreKeyedTo key m xs middle → AreKeyedTo key middle ys end → AreKeyedTo key m (xs ++ ys) end
  to_append m [] ys middle end a b = subst (λ (k : ℕ). AreKeyedTo key k ys end) (sym a) b
  to_append m (x ∷ xs) ys middle end a b = (a.0, to_append (m + 1) xs ys middle end a.1 b)

  to_range : (f : ℕ → List (List ℕ)) (start : ℕ → ℕ) (a n : ℕ) → ((x : ℕ) → a ≤ x → x < a + n → AreKeyedTo key (start x) (f x) (start (x + 1)))
      → AreKeyedTo key (start a) (flat_map f (range_with_len a n)) (start (a + n))
  to_range f start a zero each = let e : a ≡ a + 0 = omega arith in ap start e
  to_range f start a (suc n) each =
      let e : (a + 1) + n ≡ a + suc n = omega arith in
      to_append (start a) (f a) (flat_map f (range_with_len (a + 1) n)) (start (a + 1)) (start (a + suc n)) (each a (omega arith) (omega arith))
      (subst (λ (k : ℕ). AreKeyedTo key (start (a + 1)) (flat_map f (range_with_len (a + 1) n)) (start k)) e (to_range f start (a + 1) n (λ x low high. each x (omega arith) (omega arith))))

  moved_to : (m n : ℕ) (names : List (List ℕ)) (end last : ℕ) → m ≡ n → end ≡ last → AreKeyedTo key m names end → AreKeyedTo key n names last
  moved_to m n names end last e f a = subst (λ (k : ℕ). AreKeyedTo key n names k) f (subst (λ (k : ℕ). AreKeyedTo key k names end) e a)

  none_again : (seen ws : List (List ℕ)) (m end : ℕ) → AreKeyed key 0 seen → m ≡ length seen → AreKeyedTo key m ws end → stands_again seen ws ≡ false
  none_again seen [] m end keyed size to = refl
  none_again seen (w ∷ ws) m end keyed size to =
      let new : has_word seen w ≡ false = keyed_new key 0 seen w keyed (omega (arith, to.0)) in
      let at : key w ≡ 0 + length seen = omega (arith, to.0) in
      rw new (none_again (seen ++ w ∷ []) ws (m + 1) end (keyed_append key 0 seen (w ∷ []) keyed (at, tt)) (omega (arith, length-append seen (w ∷ []))) to.1)

-- cells in the order of chains
abbrev cell_place : List ℕ → ℕ
cell_place w = 5 * (numbers_in w).0 + (numbers_in w).1

abbrev title_place : List ℕ → ℕ
title_place [] = 0
title_place (c ∷ rest) = read_number rest

block_keyed : (b : ℕ) → b < 1000 → AreKeyedTo cell_place (5 * b) (block_cells b) (5 * (b + 1))
block_keyed b few =
    moved_to cell_place (5 * b + 0) (5 * b) (block_cells b) (5 * b + (0 + 5)) (5 * (b + 1)) (omega arith) (omega arith)
    (to_range cell_place (λ j. cell_name b j ∷ []) (λ j. 5 * b + j) 0 5 (λ j low high. (ap (λ (n : ℕ × ℕ). 5 * n.0 + n.1) (numbers_back 113 b j few (omega arith)), omega arith)))

module _ (blocks : ℕ) (few : blocks ≤ 200) where
  few_chains : chain_count blocks ≤ 8
  few_chains = omega arith

  cells_keyed : (h : ℕ) → h < chain_count blocks → AreKeyedTo cell_place (125 * h) (chain_cells blocks h) (125 * h + 5 * chain_blocks blocks h)
  cells_keyed h lt =
      moved_to cell_place (5 * (25 * h)) (125 * h) (chain_cells blocks h) (5 * (25 * h + chain_blocks blocks h)) (125 * h + 5 * chain_blocks blocks h) (omega arith) (omega arith)
      (to_range cell_place block_cells (λ b. 5 * b) (25 * h) (chain_blocks blocks h) (λ b low high. block_keyed b (omega arith)))

  pub cell_count : (h : ℕ) → h < chain_count blocks → length (chain_cells blocks h) ≡ 5 * chain_blocks blocks h
  cell_count h lt = omega (arith, (keyed_to cell_place (125 * h) (chain_cells blocks h) (125 * h + 5 * chain_blocks blocks h) (cells_keyed h lt)).1)

  pub some_blocks : (h : ℕ) → h < chain_count blocks → 0 < chain_blocks blocks h
  some_blocks h lt = omega arith

  -- each chain before another has 25 blocks
  cells_before : (i : ℕ) → i < chain_count blocks → AreKeyedTo cell_place 0 (flat_map (chain_cells blocks) (range_with_len 0 i)) (125 * i)
  cells_before i lt =
      moved_to cell_place (125 * 0) 0 (flat_map (chain_cells blocks) (range_with_len 0 i)) (125 * (0 + i)) (125 * i) (omega arith) (omega arith)
      (to_range cell_place (chain_cells blocks) (λ h. 125 * h) 0 i
      (λ h low high. let full : chain_blocks blocks h ≡ 25 = omega arith in moved_to cell_place (125 * h) (125 * h) (chain_cells blocks h) (125 * h + 5 * chain_blocks blocks h) (125 * (h + 1)) refl (omega arith) (cells_keyed h (omega arith))))

  title_read : (h : ℕ) → h < 8 → title_place (chain_title h) ≡ h
  title_read h lt = number_read h (omega arith)

  -- ---- lines

  title_is_name : (h : ℕ) → h < 8 → IsNetName (chain_title h)
  title_is_name h lt = record { some = omega arith; bytes = name_bytes h (omega arith); short = omega (arith, few_digits h (omega arith)) }

  cell_names : (h : ℕ) → h < chain_count blocks → AllByRecursion IsNetName (chain_cells blocks h)
  cell_names h lt = all_range IsNetName block_cells (25 * h) (chain_blocks blocks h)
      (λ b low high. all_range IsNetName (λ j. cell_name b j ∷ []) 0 5 (λ j from below. (is_name 113 b j (omega arith) (omega arith) refl, tt)))

  is_word : (w : List ℕ) → IsNetName w → (is_filled w && list_all is_name_byte w) ≡ true
  is_word w is = let some : 0 < length w = is.some in let filled : is_filled w ≡ true = grind (arith, nat_tests) in rw (filled, is.bytes) refl

  are_words : (ws : List (List ℕ)) → AllByRecursion IsNetName ws → AreNames ws
  are_words [] are = tt
  are_words (w ∷ ws) are = (is_word w are.0, are_words ws are.1)

  two_or_more : (ws : List (List ℕ)) → ltb 0 (suc (suc (length ws))) ≡ true
  two_or_more ws = grind (arith, nat_tests)

  is_line : (h : ℕ) → h < chain_count blocks → IsLine (chain_words blocks h)
  is_line h lt = (two_or_more (chain_cells blocks h), (refl, (is_word (chain_title h) (title_is_name h (omega arith)), are_words (chain_cells blocks h) (cell_names h lt))))

  short_word : (w : List ℕ) → IsNetName w → is_short_name w ≡ true
  short_word w is = let le : length w ≤ 64 = is.short in let short : is_short w ≡ true = grind (arith, nat_tests) in rw (is.bytes, short) refl

  short_words : (ws : List (List ℕ)) → AllByRecursion IsNetName ws → list_all is_short_name ws ≡ true
  short_words [] are = refl
  short_words (w ∷ ws) are = rw (short_word w are.0, short_words ws are.1) refl

  chain_named : (title : List ℕ) (cells : List (List ℕ)) → 0 < length cells → IsNetName title → AllByRecursion IsNetName cells → chain_of (codes "CHAIN" ∷ title ∷ cells) ≡ Some (record { name = title; cells = cells })
  chain_named title [] some named are = absurd (omega arith)
  chain_named title (w ∷ ws) some named are =
      ap (λ (b : Bool). cond b (Some (record { name = title; cells = w ∷ ws })) None) (short_words (title ∷ w ∷ ws) (named, are))

  chain_is : (h : ℕ) → h < chain_count blocks → chain_of (chain_words blocks h) ≡ Some (made_chain blocks h)
  chain_is h lt = chain_named (chain_title h) (chain_cells blocks h) (omega (arith, cell_count h lt, some_blocks h lt)) (title_is_name h (omega arith)) (cell_names h lt)

  chains_are : (a n : ℕ) → a + n ≤ chain_count blocks → chains (map (chain_words blocks) (range_with_len a n)) ≡ map (made_chain blocks) (range_with_len a n)
  chains_are a zero le = refl
  chains_are a (suc n) le = rw (chain_is a (omega arith)) (ap (λ (cs : List ChainNames). made_chain blocks a ∷ cs) (chains_are (a + 1) n (omega arith)))

  -- ---- rules

  none_of_five : (p q r s t : Bool) → p ≡ false → q ≡ false → r ≡ false → s ≡ false → t ≡ false → lowest ((OTHER_CHAIN_FORM, p) ∷ (UNKNOWN_CELL, q) ∷ (NOT_A_FLOP, r) ∷ (CHAIN_TAKEN, s) ∷ (TOO_MANY_CHAINS, t) ∷ []) ≡ None
  none_of_five p q r s t a b c d e = rw (a, b, c, d, e) refl

  abbrev table : List Net → List (List ℕ) → List (List ℕ) → Bool → List (List ℕ) → Option ChainNames → List (ℕ × Bool)
  table nets cells titles refused ws o =
      (OTHER_CHAIN_FORM, refused || (has_words ws && is_none o)) ∷
      (UNKNOWN_CELL, list_any (λ w. not (is_net nets w)) (cells_named o)) ∷
      (NOT_A_FLOP, list_any (λ w. not (is_flop_net nets w)) (cells_named o)) ∷
      (CHAIN_TAKEN, is_taken cells titles o) ∷
      (TOO_MANY_CHAINS, is_some o && leb chain_limit (length titles)) ∷ []

  none_fails : (p : List ℕ → Bool) (ws : List (List ℕ)) → AllByRecursion (λ w. p w ≡ true) ws → list_any (λ w. not (p w)) ws ≡ false
  none_fails p [] all = refl
  none_fails p (w ∷ ws) all = rw all.0 (none_fails p ws all.1)

  abbrev scan_lines : List (List ℕ)
  scan_lines = map (λ h. spaced (chain_words blocks h)) (range_with_len 0 (chain_count blocks))

  cells_are : (i : ℕ) → cells_in (map (made_chain blocks) (range_with_len 0 i)) ≡ flat_map (chain_cells blocks) (range_with_len 0 i)
  cells_are i = go 0 i
    where
      go : (a n : ℕ) → cells_in (map (made_chain blocks) (range_with_len a n)) ≡ flat_map (chain_cells blocks) (range_with_len a n)
      go a zero = refl
      go a (suc n) = ap (λ (ws : List (List ℕ)). chain_cells blocks a ++ ws) (go (a + 1) n)

  titles_keyed : (a n : ℕ) → a + n ≤ 8 → AreKeyed title_place a (titles_in (map (made_chain blocks) (range_with_len a n)))
  titles_keyed a zero le = tt
  titles_keyed a (suc n) le = (title_read a (omega arith), titles_keyed (a + 1) n (omega arith))

  title_total : (n : ℕ) → length (titles_in (map (made_chain blocks) (range_with_len 0 n))) ≡ n
  title_total n = length-map (map (made_chain blocks) (range_with_len 0 n)) (λ (c : ChainNames). c.name) ∙ length-map (range_with_len 0 n) (made_chain blocks) ∙ length-range_with_len 0 n

  module _ (nets : List Net) (are_nets : (b j : ℕ) → b < blocks → j < 5 → is_net nets (cell_name b j) ≡ true) (are_flops : (b j : ℕ) → b < blocks → j < 5 → is_flop_net nets (cell_name b j) ≡ true) where
    each_cell : (p : List ℕ → Bool) → ((b j : ℕ) → b < blocks → j < 5 → p (cell_name b j) ≡ true) → (h : ℕ) → h < chain_count blocks → AllByRecursion (λ w. p w ≡ true) (chain_cells blocks h)
    each_cell p each h lt = all_range (λ w. p w ≡ true) block_cells (25 * h) (chain_blocks blocks h)
        (λ b low high. all_range (λ w. p w ≡ true) (λ j. cell_name b j ∷ []) 0 5 (λ j from below. (each b j (omega arith) (omega arith), tt)))

    not_taken : (h : ℕ) → h < chain_count blocks → is_taken (flat_map (chain_cells blocks) (range_with_len 0 h)) (titles_in (map (made_chain blocks) (range_with_len 0 h))) (Some (made_chain blocks h)) ≡ false
    not_taken h lt =
        let before = keyed_to cell_place 0 (flat_map (chain_cells blocks) (range_with_len 0 h)) (125 * h) (cells_before h lt) in
        let cells = none_again cell_place (flat_map (chain_cells blocks) (range_with_len 0 h)) (chain_cells blocks h) (125 * h) (125 * h + 5 * chain_blocks blocks h) before.0 (omega (arith, before.1)) (cells_keyed h lt) in
        let title = keyed_new title_place 0 (titles_in (map (made_chain blocks) (range_with_len 0 h))) (chain_title h) (titles_keyed 0 h (omega arith)) (omega (arith, title_total h, title_read h (omega arith))) in
        rw (cells, title) refl

    few_titles : (h : ℕ) → h < chain_count blocks → leb 256 (length (titles_in (map (made_chain blocks) (range_with_len 0 h)))) ≡ false
    few_titles h lt = let total = title_total h in let less : h < 256 = omega arith in rw total (grind (arith, nat_tests))

    rule_passes : (h : ℕ) → h < chain_count blocks → scan_rule nets scan_lines h ≡ None
    rule_passes h lt =
        let before : chains (word_lines (take h scan_lines)) ≡ map (made_chain blocks) (range_with_len 0 h) =
        ap chains (words_before (chain_words blocks) (chain_count blocks) is_line h (omega arith)) ∙ chains_are 0 h (omega arith) in
        let l : List ℕ = line_at scan_lines h in
        let titles : List (List ℕ) = titles_in (map (made_chain blocks) (range_with_len 0 h)) in
        let cells : List (List ℕ) = flat_map (chain_cells blocks) (range_with_len 0 h) in
        ap (λ (cs : List ChainNames). lowest (scan_rules nets (cells_in cs) (titles_in cs) l)) before
        ∙ ap (λ (ws : List (List ℕ)). lowest (scan_rules nets ws titles l)) (cells_are h)
        ∙ ap (λ (ws : List (List ℕ)). lowest (table nets cells titles (has_refused_byte l) ws (chain_of ws))) (words_here (chain_words blocks) (chain_count blocks) is_line h lt)
        ∙ ap₂ (λ (b : Bool) (o : Option ChainNames). lowest (table nets cells titles b (chain_words blocks h) o)) (accepted_here (chain_words blocks) (chain_count blocks) is_line h lt) (chain_is h lt)
        ∙ none_of_five _ _ _ _ _ (and_right (has_words (chain_words blocks h)) false refl) (none_fails (is_net nets) (chain_cells blocks h) (each_cell (is_net nets) are_nets h lt))
        (none_fails (is_flop_net nets) (chain_cells blocks h) (each_cell (is_flop_net nets) are_flops h lt)) (not_taken h lt) (few_titles h lt)

    scan_text_lines : text_lines (made_scan blocks) ≡ scan_lines
    scan_text_lines = ap text_lines (sym (concatenated_range (chain_words blocks) (chain_line blocks) (line_is blocks) 0 (chain_count blocks))) ∙ text_is (chain_words blocks) (chain_count blocks) is_line

    pub scan_stands : scan_reading nets (made_scan blocks) ≡ Ok (map (numbered nets) (map (made_chain blocks) (range_with_len 0 (chain_count blocks))))
    scan_stands =
        let none : first_fault (scan_rule nets scan_lines) (length scan_lines) ≡ None =
        ap (fault_from (scan_rule nets scan_lines) 0) (line_count (chain_words blocks) (chain_count blocks) is_line) ∙ fault_from_none (scan_rule nets scan_lines) 0 (chain_count blocks) (λ k low high. rule_passes k (omega arith)) in
        ap (λ (ls : List (List ℕ)). refused_or (first_fault (scan_rule nets ls) (length ls)) (chains_of nets ls)) scan_text_lines
        ∙ ap (λ (o : Option (ℕ × ℕ)). refused_or o (chains_of nets scan_lines)) none
        ∙ ap (λ (cs : List ChainNames). Ok (map (numbered nets) cs)) (ap chains (all_words (chain_words blocks) (chain_count blocks) is_line) ∙ chains_are 0 (chain_count blocks) (omega arith))

  -- ---- lengths

  -- the lengths of the chains
  pub chain_lengths : (nets : List Net) → map (λ (h : Chain). length h.cells) (map (numbered nets) (map (made_chain blocks) (range_with_len 0 (chain_count blocks)))) ≡ map (λ h. 5 * chain_blocks blocks h) (range_with_len 0 (chain_count blocks))
  chain_lengths nets = go 0 (chain_count blocks) (omega arith)
    where
      go : (a n : ℕ) → a + n ≤ chain_count blocks → map (λ (h : Chain). length h.cells) (map (numbered nets) (map (made_chain blocks) (range_with_len a n))) ≡ map (λ h. 5 * chain_blocks blocks h) (range_with_len a n)
      go a zero le = refl
      go a (suc n) le = ap₂ (λ (x : ℕ) (xs : List ℕ). x ∷ xs) (length-map (chain_cells blocks a) _ ∙ cell_count a (omega arith)) (go (a + 1) n (omega arith))
