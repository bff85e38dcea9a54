-- What is known of the later lines of a log without a fault.
use Rattle.std.proofs.Common.{◌≡◌, ℕ, zero, suc, ◌+◌, ◌*◌, ◌/◌, ◌<◌, ◌≤◌, Bool, true, false, not, ◌||◌, ◌&&◌, ltb, leb, List, [], ◌∷◌, ◌++◌, length, take, Option, Some, None, refl, sym, subst, ap, ◌∙◌, arith, append-nil, append_assoc}
use Rattle.std.specs.Prelude.{filter_map, All, option_to_list}
use Rattle.std.specs.List.{AllByRecursion}
use Rattle.std.specs.Str.{bytes_eq}
use Rattle.std.proofs.lemmas.Bool.{and_parts, leb-true}
use Rattle.std.proofs.lemmas.Bool.Decides.{nat_tests}
use Rattle.std.proofs.lemmas.Nat.{div-mul-add}
use Rattle.std.proofs.lemmas.List.{take_more, take_all, map_push}
use Rattle.std.proofs.lemmas.List.Elements.{All-nil, All-cons, All-append}
use Rattle.std.proofs.lemmas.List.Folds.{Any-from_list_any, list_any-append}
use Rattle.scan_model.specs.declared.logs.Range.{Range}
use Rattle.scan_model.specs.declared.logs.LogVersion.{LogVersion}
use Rattle.scan_model.specs.Coverage.{some_holds}
use Rattle.scan_model.specs.Lines.{text_lines, line_at}
use Rattle.scan_model.specs.Words.{words, word_lines, has_words}
use Rattle.scan_model.specs.TextFaults.{lowest}
use Rattle.scan_model.specs.LogText.{LogFrame, LogLine, Headers, die_line, design_line, tested_line, out_line, cell_line, cut_out_line, cut_chain_line, end_line, truncated_line, other_line, log_line, pattern_named, has_bad_range, is_nowhere, is_untested, has_ranges, has_all, is_misplaced, later_rules, rules_after, rules_of_words, log_rules, log_rule, log_fault, later_lines, title_of, is_closed, headers_in, range_of, group_cut, number}
use Rattle.scan_model.proofs.FaultSteps.{fault_from-clean}
use Rattle.fail_logs.specs.BitNumbers.{point_named, number_named, numbers_named}
use Rattle.fail_logs.specs.Groups.{IsGroupIn}
use Rattle.fail_logs.specs.HeaderLines.{with_line, EndsBelow}
use Rattle.fail_logs.specs.LogDrafts.{later_by, later_of, headers_after}
use Rattle.fail_logs.specs.FrameFacts.{IsFrame}
use Rattle.fail_logs.proofs.Later.{later_push, headers_push}
use Rattle.fail_logs.proofs.Loop.{differs}
use Rattle.fail_logs.proofs.NamedPoints.{holds, found_by_any, filter_map-cons, point_named-below}

-- a later line breaks none of the rules on its range, its place and its pattern
pub record IsAccepted (frame : LogFrame) (h : Headers) (l : LogLine) : Type 0 where
  pub good_range : has_bad_range frame l ≡ false
  pub somewhere : is_nowhere frame l ≡ false
  pub tested : (p : ℕ) → pattern_named l ≡ Some p → some_holds h.ranges p ≡ true

-- each of these lines, after these headers
abbrev pub AreAccepted : LogFrame → Headers → List LogLine → Type 0
AreAccepted frame h [] = Unit {0}
AreAccepted frame h (l ∷ ls) = IsAccepted frame h l × AreAccepted frame (with_line h l) ls

-- no rule of the table is broken
abbrev pub NoneBroken : List (ℕ × Bool) → Type 0
NoneBroken table = AllByRecursion (λ (r : ℕ × Bool). r.1 ≡ false) table

pub none_broken : (table : List (ℕ × Bool)) → lowest table ≡ None → NoneBroken table
none_broken [] e = tt
none_broken (r ∷ more) e = go r.1 refl (none_broken more)
  where
    go : (b : Bool) → r.1 ≡ b → (lowest more ≡ None → NoneBroken more) → (r.1 ≡ false) × NoneBroken more
    go true h rest = absurd (let bad : Some r.0 ≡ None = rw h at e in cc)
    go false h rest = (h, rest (rw h at e))

none_is : (a b : Bool) → (a || b) ≡ false → (a ≡ false) × (b ≡ false)
none_is true b e = absurd cc
none_is false b e = (refl, e)

-- ---- one line

pub ranges_there : (h : Headers) → not (has_all h) ≡ false → has_ranges h.ranges ≡ true
ranges_there h placed = (and_parts h.design (has_ranges h.ranges) (and_parts h.die (h.design && has_ranges h.ranges) (holds (has_all h) placed)).1).1

ranges_at_fail : (version : LogVersion) (h : Headers) (l : LogLine) (p : ℕ) → pattern_named l ≡ Some p → is_misplaced version h l ≡ false → has_ranges h.ranges ≡ true
ranges_at_fail version h (out_line w n) p some placed = ranges_there h placed
ranges_at_fail version h (cell_line w c pos) p some placed = ranges_there h placed
ranges_at_fail version h (die_line w) p some placed = absurd cc
ranges_at_fail version h (design_line w) p some placed = absurd cc
ranges_at_fail version h (tested_line a b) p some placed = absurd cc
ranges_at_fail version h cut_out_line p some placed = absurd cc
ranges_at_fail version h (cut_chain_line w) p some placed = absurd cc
ranges_at_fail version h end_line p some placed = absurd cc
ranges_at_fail version h truncated_line p some placed = absurd cc
ranges_at_fail version h other_line p some placed = absurd cc

held : (ranges : List Range) (o : Option ℕ) (p : ℕ) → o ≡ Some p → is_untested ranges o ≡ false → has_ranges ranges ≡ true → some_holds ranges p ≡ true
held ranges None p some tested there = absurd cc
held ranges (Some q) p some tested there = let same : q ≡ p = cc in holds (some_holds ranges p) (rw (there, same) at tested)

line_accepted : (frame : LogFrame) (version : LogVersion) (h : Headers) (l : LogLine) → NoneBroken (later_rules frame version h l) → IsAccepted frame h l
line_accepted frame version h l rules = record {
  good_range = rules.1.1.1.1.0;
  somewhere = rules.1.1.1.1.1.0;
  tested = λ p some. held h.ranges (pattern_named l) p some rules.1.1.1.1.1.1.0 (ranges_at_fail version h l p some rules.1.1.1.1.1.1.1.1.0);
}

good_numbers : (a b n : ℕ) → (ltb b a || leb n b) ≡ false → (a ≤ b) × (b < n)
good_numbers a b n e =
    let both = none_is (ltb b a) (leb n b) e in
    let below : ltb b a ≡ false = both.0 in
    let above : leb n b ≡ false = both.1 in
    (grind (arith, nat_tests, below), grind (arith, nat_tests, above))

-- the range of a line that is accepted ends below the number of patterns
pub ends_below : (frame : LogFrame) (version : LogVersion) (h : Headers) (l : LogLine) (n : ℕ) → length frame.shifts ≤ n → lowest (later_rules frame version h l) ≡ None → EndsBelow n l
ends_below frame version h l n few none = below l (none_broken (later_rules frame version h l) none).1.1.1.1.0
  where
    below : (l : LogLine) → has_bad_range frame l ≡ false → EndsBelow n l
    below (tested_line a b) good = omega (arith, few, (good_numbers (number a) (number b) (length frame.shifts) good).1)
    below (die_line w) good = tt
    below (design_line w) good = tt
    below (out_line p n) good = tt
    below (cell_line p c w) good = tt
    below cut_out_line good = tt
    below (cut_chain_line w) good = tt
    below end_line good = tt
    below truncated_line good = tt
    below other_line good = tt

-- ---- all lines

words_accepted : (frame : LogFrame) (h : Headers) (ws : List (List ℕ)) (title : Option LogVersion) (closed : Bool) → NoneBroken (rules_of_words frame title closed h ws) → AreAccepted frame h (later_of frame.form title ws)
words_accepted frame h ws title closed = go (has_words ws) refl
  where
    titled : (title : Option LogVersion) (closed : Bool) → NoneBroken (rules_after frame title closed h ws) → AreAccepted frame h (later_by frame.form title ws)
    titled None closed all = tt
    titled (Some version) true all = absurd (let broken : true ≡ false = all.0 in cc)
    titled (Some version) false all = (line_accepted frame version h (log_line frame.form version ws) all, tt)

    go : (b : Bool) → has_words ws ≡ b → NoneBroken (rules_of_words frame title closed h ws) → AreAccepted frame h (later_of frame.form title ws)
    go false e all = rw e tt
    go true e all = rw e (titled title closed (rw e at all))

AreAccepted-append : (frame : LogFrame) (h : Headers) (xs ys : List LogLine) → AreAccepted frame h xs → AreAccepted frame (headers_after h xs) ys → AreAccepted frame h (xs ++ ys)
AreAccepted-append frame h [] ys first then = then
AreAccepted-append frame h (x ∷ xs) ys first then = (first.0, AreAccepted-append frame (with_line h x) xs ys first.1 then)

module _ (frame : LogFrame) (ls : List (List ℕ)) (none : (k : ℕ) → k < length ls + 1 → log_rule frame ls k ≡ None) where
  accepted_before : (i : ℕ) → i ≤ length ls → AreAccepted frame (headers_in []) (later_lines frame.form (take i ls))
  accepted_before zero le = tt
  accepted_before (suc i) le =
      let lt : i < length ls = omega arith in
      let before : List (List ℕ) = take i ls in
      let line : List ℕ = line_at ls i in
      let title : Option LogVersion = title_of frame.form before in
      let later : List LogLine = later_lines frame.form before in
      let rule : lowest (log_rules frame title (is_closed later) (headers_in later) line) ≡ None = rw (differs i (length ls) lt) at (none i (omega arith)) in
      let table = none_broken (log_rules frame title (is_closed later) (headers_in later) line) rule in
      let here : AreAccepted frame (headers_in later) (later_of frame.form title (words line)) = words_accepted frame (headers_in later) (words line) title (is_closed later) table.1 in
      let headers : headers_in later ≡ headers_after (headers_in []) later = headers_push [] later in
      let next : AreAccepted frame (headers_after (headers_in []) later) (later_of frame.form title (words line)) = rw headers at here in
      let push : word_lines (before ++ line ∷ []) ≡ word_lines before ++ words line ∷ [] = map_push words before line in
      let lines : later_lines frame.form (before ++ line ∷ []) ≡ later ++ later_of frame.form title (words line) = rw push (later_push frame.form (word_lines before) (words line)) in
      let more : take (i + 1) ls ≡ before ++ line ∷ [] = take_more ls i [] lt in
      let one : suc i ≡ i + 1 = omega arith in
      rw (one, more, lines) (AreAccepted-append frame (headers_in []) later (later_of frame.form title (words line)) (accepted_before i (omega arith)) next)

  pub all_accepted : AreAccepted frame (headers_in []) (later_lines frame.form ls)
  all_accepted = let whole : take (length ls) ls ≡ ls = take_all (length ls) ls (omega arith) in rw whole at (accepted_before (length ls) (omega arith))

-- ---- the ranges

ranges_more : (h : Headers) (l : LogLine) → (with_line h l).ranges ≡ h.ranges ++ option_to_list (range_of l)
ranges_more h (tested_line a b) = refl
ranges_more h (die_line w) = sym (append-nil h.ranges)
ranges_more h (design_line w) = sym (append-nil h.ranges)
ranges_more h (out_line p n) = sym (append-nil h.ranges)
ranges_more h (cell_line p c w) = sym (append-nil h.ranges)
ranges_more h cut_out_line = sym (append-nil h.ranges)
ranges_more h (cut_chain_line w) = sym (append-nil h.ranges)
ranges_more h end_line = sym (append-nil h.ranges)
ranges_more h truncated_line = sym (append-nil h.ranges)
ranges_more h other_line = sym (append-nil h.ranges)

-- a range that ends below so many patterns
abbrev pub IsBelow : ℕ → Range → Type 0
IsBelow n r = r.last < n

one_below : (frame : LogFrame) (l : LogLine) → has_bad_range frame l ≡ false → All (IsBelow (length frame.shifts)) (option_to_list (range_of l))
one_below frame (tested_line a b) good = All-cons (IsBelow (length frame.shifts)) (record { first = number a; last = number b }) [] (good_numbers (number a) (number b) (length frame.shifts) good).1 (All-nil (IsBelow (length frame.shifts)))
one_below frame (die_line w) good = All-nil (IsBelow (length frame.shifts))
one_below frame (design_line w) good = All-nil (IsBelow (length frame.shifts))
one_below frame (out_line p n) good = All-nil (IsBelow (length frame.shifts))
one_below frame (cell_line p c w) good = All-nil (IsBelow (length frame.shifts))
one_below frame cut_out_line good = All-nil (IsBelow (length frame.shifts))
one_below frame (cut_chain_line w) good = All-nil (IsBelow (length frame.shifts))
one_below frame end_line good = All-nil (IsBelow (length frame.shifts))
one_below frame truncated_line good = All-nil (IsBelow (length frame.shifts))
one_below frame other_line good = All-nil (IsBelow (length frame.shifts))

ranges_below : (frame : LogFrame) (h : Headers) (ls : List LogLine) → AreAccepted frame h ls → All (IsBelow (length frame.shifts)) (filter_map range_of ls)
ranges_below frame h [] all = All-nil (IsBelow (length frame.shifts))
ranges_below frame h (l ∷ ls) all =
    rw (filter_map-cons range_of l ls)
    (All-append (IsBelow (length frame.shifts)) (option_to_list (range_of l)) (filter_map range_of ls) (one_below frame l all.0.good_range) (ranges_below frame (with_line h l) ls all.1))

-- a tested pattern is below the number of patterns
pub held_below : (ranges : List Range) (n w : ℕ) → All (IsBelow n) ranges → some_holds ranges w ≡ true → w < n
held_below ranges n w all found =
    let at = Any-from_list_any (λ (r : Range). leb r.first w && leb w r.last) ranges found in
    let up_to : w ≤ at.1.last = leb-true w at.1.last (and_parts (leb at.1.first w) (leb w at.1.last) at.4).1 in
    let below : at.1.last < n = subst (IsBelow n) at.3 (all at.0 at.1 at.2) in
    omega (arith, up_to, below)

-- ---- the fails

-- the number of a bit of a pattern that some range holds
abbrev pub IsTested : LogFrame → List Range → ℕ → Type 0
IsTested frame ranges x = (0 < length frame.points) × (some_holds ranges (x / length frame.points) ≡ true)

module _ (frame : LogFrame) (rows : List (List ℕ)) (sound : IsFrame frame rows) where
  one_tested : (h : Headers) (l : LogLine) (more : List Range) → IsAccepted frame h l → All (IsTested frame (h.ranges ++ more)) (option_to_list (number_named frame rows l))
  one_tested h l more is = go (pattern_named l) refl
    where
      go : (o : Option ℕ) → pattern_named l ≡ o → All (IsTested frame (h.ranges ++ more)) (option_to_list (number_named frame rows l))
      go None e = rw e (All-nil (IsTested frame (h.ranges ++ more)))
      go (Some p) e =
          let n : ℕ = length frame.points in
          let k : ℕ = point_named frame rows l in
          let below : k < n = point_named-below frame rows sound l p e is.somewhere in
          let here : some_holds (h.ranges ++ more) p ≡ true = list_any-append (λ (r : Range). leb r.first p && leb p r.last) h.ranges more ∙ ap (λ (b : Bool). b || some_holds more p) (is.tested p e) in
          let tested : IsTested frame (h.ranges ++ more) (p * n + k) = (omega arith, ap (some_holds (h.ranges ++ more)) (div-mul-add p n k below) ∙ here) in
          rw e (All-cons (IsTested frame (h.ranges ++ more)) (p * n + k) [] tested (All-nil (IsTested frame (h.ranges ++ more))))

  fails_tested : (h : Headers) (ls : List LogLine) → AreAccepted frame h ls → All (IsTested frame (h.ranges ++ filter_map range_of ls)) (numbers_named frame rows ls)
  fails_tested h [] all = All-nil (IsTested frame (h.ranges ++ []))
  fails_tested h (l ∷ ls) all =
      let ranges : List Range = h.ranges ++ filter_map range_of (l ∷ ls) in
      let same : (with_line h l).ranges ++ filter_map range_of ls ≡ ranges =
      ap (λ rs. rs ++ filter_map range_of ls) (ranges_more h l) ∙ append_assoc h.ranges (option_to_list (range_of l)) (filter_map range_of ls) ∙ ap (λ rs. h.ranges ++ rs) (sym (filter_map-cons range_of l ls)) in
      let later : All (IsTested frame ranges) (numbers_named frame rows ls) = subst (λ rs. All (IsTested frame rs) (numbers_named frame rows ls)) same (fails_tested (with_line h l) ls all.1) in
      rw (filter_map-cons (number_named frame rows) l ls)
      (All-append (IsTested frame ranges) (option_to_list (number_named frame rows l)) (numbers_named frame rows ls) (one_tested h l (filter_map range_of (l ∷ ls)) all.0) later)

all_somewhere : (frame : LogFrame) (h : Headers) (ls : List LogLine) → AreAccepted frame h ls → AllByRecursion (λ l. is_nowhere frame l ≡ false) ls
all_somewhere frame h [] all = tt
all_somewhere frame h (l ∷ ls) all = (all.0.somewhere, all_somewhere frame (with_line h l) ls all.1)

-- ---- the groups

one_group : (frame : LogFrame) (l : LogLine) → is_nowhere frame l ≡ false → All (IsGroupIn (length frame.chains)) (option_to_list (group_cut frame l))
one_group frame cut_out_line somewhere = All-cons (IsGroupIn (length frame.chains)) _ [] tt (All-nil (IsGroupIn (length frame.chains)))
one_group frame (cut_chain_line w) somewhere = All-cons (IsGroupIn (length frame.chains)) _ [] (found_by_any (bytes_eq w) frame.chains (holds _ somewhere)) (All-nil (IsGroupIn (length frame.chains)))
one_group frame (tested_line a b) somewhere = All-nil (IsGroupIn (length frame.chains))
one_group frame (die_line w) somewhere = All-nil (IsGroupIn (length frame.chains))
one_group frame (design_line w) somewhere = All-nil (IsGroupIn (length frame.chains))
one_group frame (out_line p n) somewhere = All-nil (IsGroupIn (length frame.chains))
one_group frame (cell_line p c w) somewhere = All-nil (IsGroupIn (length frame.chains))
one_group frame end_line somewhere = All-nil (IsGroupIn (length frame.chains))
one_group frame truncated_line somewhere = All-nil (IsGroupIn (length frame.chains))
one_group frame other_line somewhere = All-nil (IsGroupIn (length frame.chains))

pub groups_in : (frame : LogFrame) (ls : List LogLine) → AllByRecursion (λ l. is_nowhere frame l ≡ false) ls → All (IsGroupIn (length frame.chains)) (filter_map (group_cut frame) ls)
groups_in frame [] all = All-nil (IsGroupIn (length frame.chains))
groups_in frame (l ∷ ls) all =
    rw (filter_map-cons (group_cut frame) l ls)
    (All-append (IsGroupIn (length frame.chains)) (option_to_list (group_cut frame l)) (filter_map (group_cut frame) ls) (one_group frame l all.0) (groups_in frame ls all.1))

-- ---- together

-- a log without a fault has ranges below the number of patterns, and its fails are bits of patterns in them
pub record IsFaultless (frame : LogFrame) (rows : List (List ℕ)) (ls : List LogLine) : Type 0 where
  pub ranges : All (IsBelow (length frame.shifts)) (filter_map range_of ls)
  pub fails : All (IsTested frame (filter_map range_of ls)) (numbers_named frame rows ls)
  pub somewhere : AllByRecursion (λ l. is_nowhere frame l ≡ false) ls

pub faultless : (frame : LogFrame) (rows : List (List ℕ)) (bytes : List ℕ) → IsFrame frame rows → log_fault frame bytes ≡ None → IsFaultless frame rows (later_lines frame.form (text_lines bytes))
faultless frame rows bytes sound none =
    let lines : List (List ℕ) = text_lines bytes in
    let ls : List LogLine = later_lines frame.form lines in
    let each : (k : ℕ) → k < length lines + 1 → log_rule frame lines k ≡ None = λ k lt. fault_from-clean (log_rule frame lines) 0 (length lines + 1) none k (omega arith) (omega arith) in
    let all = all_accepted frame lines each in
    record {
      ranges = ranges_below frame (headers_in []) ls all;
      fails = fails_tested frame rows sound (headers_in []) ls all;
      somewhere = all_somewhere frame (headers_in []) ls all;
    }
