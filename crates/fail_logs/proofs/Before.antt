-- A log of version 1 still says what it said when version 1 was the only one.
use Rattle.std.proofs.Common.{◌≡◌, ℕ, zero, suc, ◌+◌, ◌<◌, ◌≤◌, Bool, true, false, not, cond, ltb, leb, ◌&&◌, ◌||◌, List, [], ◌∷◌, ◌++◌, length, map, take, drop, Option, Some, None, is_some, unwrap_or, Result, Ok, Err, refl, sym, subst, ap, ◌∙◌, inl, inr, arith, append-nil}
use Rattle.std.specs.Prelude.{codes, filter, filter_map, slice_get, option_map}
use Rattle.std.specs.List.{list_any}
use Rattle.std.proofs.lemmas.Bool.{and_parts, cases_lt, both_ways, lt-ltb, le-ltb, le-leb, lt-leb}
use Rattle.std.proofs.lemmas.List.{take_more, take_all, map_push, map-append, take-append-drop, length-append}
use Rattle.std.proofs.lemmas.List.Elements.{filter-append, filter_map-append}
use Rattle.std.proofs.lemmas.List.Folds.{list_any-append}
use Rattle.scan_model.specs.declared.logs.Range.{Range}
use Rattle.scan_model.specs.declared.logs.LogFacts.{LogFacts}
use Rattle.scan_model.specs.declared.logs.LogForm.TheVariants.{FailLog}
use Rattle.scan_model.specs.declared.logs.LogVersion.{LogVersion}
use Rattle.scan_model.specs.declared.logs.LogVersion.TheVariants.{First}
use Rattle.scan_model.specs.Coverage.{not_after}
use Rattle.scan_model.specs.Lines.{text_lines, line_at, has_refused_byte}
use Rattle.scan_model.specs.Words.{words, word_lines, has_words}
use Rattle.scan_model.specs.TextFaults.{lowest, fault_from, first_fault, refused_or}
use Rattle.scan_model.specs.declared.rules.TheConstants.{REFUSED_LOG_BYTE, AFTER_CLOSING_LINE}
use Rattle.scan_model.specs.LogText as new
use Rattle.scan_model.specs.ScanTest.{ScanTest}
use Rattle.scan_model.specs.LogText.{LogFrame, log_frame, LogLine, Headers, die_line, design_line, tested_line, out_line, cell_line, cut_out_line, cut_chain_line, end_line, truncated_line, other_line, is_word, range_of, group_cut, has_ranges, has_all, is_misplaced, is_late, is_untested, pattern_named, is_end, is_die, is_design, is_entry, headers_in, number, first_version, lines_after, version_of, title_version}
use Rattle.scan_model.specs.LogTextV1 as v1
use Rattle.scan_model.specs.LogTextV1.{LogV1, covers_v1}
use Rattle.text_parts.specs.declared.fault.ReadFault.{ReadFault}
use Rattle.text_parts.specs.declared.fault.ReadFault.TheVariants.{Text, NoMemory}
use Rattle.text_parts.specs.ReadResults.{Gives}
use Rattle.fail_logs.specs.ReadResultsV1.{SaysAsBefore, GivesV1}
use Rattle.fail_logs.specs.LogDrafts.{later_of}
use Rattle.fail_logs.proofs.Accepted.{NoneBroken, none_broken, ranges_there}
use Rattle.fail_logs.proofs.NamedPoints.{holds}
use Rattle.fail_logs.proofs.Later.{later_push, filled_push}
use Rattle.fail_logs.proofs.Whole.{was_read}
use Rattle.scan_model.proofs.FaultSteps.{fault_from-clean}
use Rattle.fail_logs.proofs.Loop.{differs, same}

-- ---- one line

same_line : (ws : List (List ℕ)) → new.log_line FailLog First ws ≡ v1.log_line ws
same_line [] = refl
same_line (a ∷ []) = refl
same_line (a ∷ b ∷ []) = refl
same_line (a ∷ b ∷ c ∷ []) = refl
same_line (a ∷ b ∷ c ∷ d ∷ []) = refl
same_line (a ∷ b ∷ c ∷ d ∷ e ∷ []) = refl
same_line (a ∷ b ∷ c ∷ d ∷ e ∷ f ∷ more) = refl

same_lines : (wss : List (List (List ℕ))) → map (new.log_line FailLog First) wss ≡ map v1.log_line wss
same_lines [] = refl
same_lines (ws ∷ more) = rw (same_line ws, same_lines more) refl

-- the range as a pair
abbrev pair : Range → ℕ × ℕ
pair r = (r.first, r.last)

same_range : (l : LogLine) → v1.range_of l ≡ option_map pair (range_of l)
same_range (tested_line a b) = refl
same_range (die_line w) = refl
same_range (design_line w) = refl
same_range (out_line p n) = refl
same_range (cell_line p c w) = refl
same_range cut_out_line = refl
same_range (cut_chain_line w) = refl
same_range end_line = refl
same_range truncated_line = refl
same_range other_line = refl

same_ranges : (ls : List LogLine) → filter_map v1.range_of ls ≡ map pair (filter_map range_of ls)
same_ranges [] = refl
same_ranges (l ∷ ls) = go (range_of l) refl (same_ranges ls)
  where
    go : (o : Option Range) → range_of l ≡ o → filter_map v1.range_of ls ≡ map pair (filter_map range_of ls) → filter_map v1.range_of (l ∷ ls) ≡ map pair (filter_map range_of (l ∷ ls))
    go None e rest = rw (same_range l, e) rest
    go (Some r) e rest = rw (same_range l, e) (ap (λ rs. pair r ∷ rs) rest)

-- no line of version 1 cuts a group
no_cut : (frame : LogFrame) (ws : List (List ℕ)) → group_cut frame (v1.log_line ws) ≡ None
no_cut frame [] = refl
no_cut frame (a ∷ []) = two (is_word a _) (is_word a _)
  where
    two : (p q : Bool) → group_cut frame (cond p end_line (cond q truncated_line other_line)) ≡ None
    two true q = refl
    two false true = refl
    two false false = refl
no_cut frame (a ∷ b ∷ []) = two (is_word a _) (is_word a _)
  where
    two : (p q : Bool) → group_cut frame (cond p (die_line b) (cond q (design_line b) other_line)) ≡ None
    two true q = refl
    two false true = refl
    two false false = refl
no_cut frame (a ∷ b ∷ c ∷ []) = one (is_word a _)
  where
    one : (p : Bool) → group_cut frame (cond p (tested_line b c) other_line) ≡ None
    one true = refl
    one false = refl
no_cut frame (a ∷ b ∷ c ∷ d ∷ []) = one (is_word a _ && is_word c _)
  where
    one : (p : Bool) → group_cut frame (cond p (out_line b d) other_line) ≡ None
    one true = refl
    one false = refl
no_cut frame (a ∷ b ∷ c ∷ d ∷ e ∷ []) = one (is_word a _ && is_word c _)
  where
    one : (p : Bool) → group_cut frame (cond p (cell_line b d e) other_line) ≡ None
    one true = refl
    one false = refl
no_cut frame (a ∷ b ∷ c ∷ d ∷ e ∷ f ∷ more) = refl

no_cuts : (frame : LogFrame) (wss : List (List (List ℕ))) → filter_map (group_cut frame) (map v1.log_line wss) ≡ []
no_cuts frame [] = refl
no_cuts frame (ws ∷ more) = rw (no_cut frame ws) (no_cuts frame more)

-- ---- the rules of a line, where at most one range came

-- at most one range
abbrev IsOne : List Range → Type 0
IsOne ranges = length ranges ≤ 1

outside : (r : Range) (p : ℕ) → not ((leb r.first p && leb p r.last) || false) ≡ (ltb p r.first || ltb r.last p)
outside r p = elim (cases_lt p r.first) [
  | inl lt ↦ rw (lt-leb r.first p lt, lt-ltb p r.first lt) refl
  | inr from ↦ elim (cases_lt r.last p) [
    | inl lt ↦ rw (le-leb r.first p from, lt-leb p r.last lt, le-ltb p r.first from, lt-ltb r.last p lt) refl
    | inr up_to ↦ rw (le-leb r.first p from, le-leb p r.last up_to, le-ltb p r.first from, le-ltb r.last p up_to) refl
  ]
]

same_untested : (ranges : List Range) (o : Option ℕ) → IsOne ranges → is_untested ranges o ≡ v1.is_untested (slice_get (map pair ranges) 0) o
same_untested [] None one = refl
same_untested [] (Some p) one = refl
same_untested (r ∷ []) None one = refl
same_untested (r ∷ []) (Some p) one = outside r p
same_untested (r ∷ s ∷ more) o one = absurd (omega (arith, one))

same_some : (ranges : List Range) → has_ranges ranges ≡ is_some (slice_get (map pair ranges) 0)
same_some [] = refl
same_some (r ∷ more) = lt-ltb 0 (suc (length more)) (omega arith)

abbrev before : Headers → v1.Headers
before h = record { die = h.die; design = h.design; tested = slice_get (map pair h.ranges) 0 }

same_misplaced : (h : Headers) (l : LogLine) → v1.is_misplaced (before h) l ≡ is_misplaced First h l
same_misplaced h (die_line w) = refl
same_misplaced h (design_line w) = refl
same_misplaced h (tested_line a b) = sym (same_some h.ranges)
same_misplaced h other_line = refl
same_misplaced h (out_line p n) = ap (λ b. not (h.die && (h.design && b))) (sym (same_some h.ranges))
same_misplaced h (cell_line p c w) = ap (λ b. not (h.die && (h.design && b))) (sym (same_some h.ranges))
same_misplaced h cut_out_line = ap (λ b. not (h.die && (h.design && b))) (sym (same_some h.ranges))
same_misplaced h (cut_chain_line w) = ap (λ b. not (h.die && (h.design && b))) (sym (same_some h.ranges))
same_misplaced h end_line = ap (λ b. not (h.die && (h.design && b))) (sym (same_some h.ranges))
same_misplaced h truncated_line = ap (λ b. not (h.die && (h.design && b))) (sym (same_some h.ranges))

never_late : (h : Headers) (l : LogLine) → is_late First h l ≡ false
never_late h (tested_line a b) = refl
never_late h (die_line w) = refl
never_late h (design_line w) = refl
never_late h (out_line p n) = refl
never_late h (cell_line p c w) = refl
never_late h cut_out_line = refl
never_late h (cut_chain_line w) = refl
never_late h end_line = refl
never_late h truncated_line = refl
never_late h other_line = refl

same_later : (frame : LogFrame) (h : Headers) (l : LogLine) → IsOne h.ranges → lowest (new.later_rules frame First h l) ≡ lowest (v1.later_rules frame (before h) l)
same_later frame h l one = rw (never_late h l, same_untested h.ranges (pattern_named l) one, same_misplaced h l) refl

same_headers : (ls : List LogLine) → v1.headers_in ls ≡ before (headers_in ls)
same_headers ls = rw (same_ranges ls) refl

-- ---- the lines with words

abbrev filled : List (List ℕ) → List (List (List ℕ))
filled ls = filter has_words (word_lines ls)

-- none came, or the first is the title
abbrev IsBegun : List (List (List ℕ)) → Type 0
IsBegun [] = Unit {0}
IsBegun (ws ∷ more) = v1.is_title ws ≡ true

title_first : (ws : List (List ℕ)) → v1.is_title ws ≡ true → title_version FailLog ws ≡ Some First
title_first [] e = absurd cc
title_first (w ∷ []) e = absurd cc
title_first (w ∷ v ∷ []) e = let both = and_parts (is_word w (codes "FAILLOG")) (is_word v (codes "1")) e in rw (both.0, both.1) refl
title_first (w ∷ v ∷ u ∷ more) e = absurd cc

version_first : (ws : List (List ℕ)) → v1.is_title ws ≡ true → version_of FailLog ws ≡ First
version_first ws begun = ap (λ (o : Option LogVersion). unwrap_or o First) (title_first ws begun)

same_later_lines : (fs : List (List (List ℕ))) → IsBegun fs → lines_after FailLog fs ≡ map v1.log_line (v1.without_first fs)
same_later_lines [] begun = refl
same_later_lines (ws ∷ more) begun = rw (version_first ws begun) (same_lines more)

begun_front : (fs gs : List (List (List ℕ))) → v1.begins_with_title (fs ++ gs) ≡ true → IsBegun fs
begun_front [] gs e = tt
begun_front (ws ∷ more) gs e = e

titled_is : (wss : List (List (List ℕ))) → list_any has_words wss ≡ is_some (first_version FailLog (filter has_words wss))
titled_is [] = refl
titled_is (ws ∷ more) = go (has_words ws) refl (titled_is more)
  where
    go : (b : Bool) → has_words ws ≡ b → list_any has_words more ≡ is_some (first_version FailLog (filter has_words more)) → list_any has_words (ws ∷ more) ≡ is_some (first_version FailLog (filter has_words (ws ∷ more)))
    go true e rest = rw e refl
    go false e rest = rw e rest

-- ---- up to the first fault

one_more_range : (h : Headers) (l : LogLine) → is_misplaced First h l ≡ false → IsOne h.ranges → IsOne (h.ranges ++ filter_map range_of (l ∷ []))
one_more_range h (tested_line a b) placed one = omega (arith, length-append h.ranges (record { first = number a; last = number b } ∷ []), none_there h.ranges placed)
  where
    none_there : (rs : List Range) → has_ranges rs ≡ false → length rs ≡ 0
    none_there [] e = refl
    none_there (r ∷ rs) e = absurd (both_ways (has_ranges (r ∷ rs)) e (lt-ltb 0 (suc (length rs)) (omega arith)))
one_more_range h (die_line w) placed one = rw (append-nil h.ranges) one
one_more_range h (design_line w) placed one = rw (append-nil h.ranges) one
one_more_range h (out_line p n) placed one = rw (append-nil h.ranges) one
one_more_range h (cell_line p c w) placed one = rw (append-nil h.ranges) one
one_more_range h cut_out_line placed one = rw (append-nil h.ranges) one
one_more_range h (cut_chain_line w) placed one = rw (append-nil h.ranges) one
one_more_range h end_line placed one = rw (append-nil h.ranges) one
one_more_range h truncated_line placed one = rw (append-nil h.ranges) one
one_more_range h other_line placed one = rw (append-nil h.ranges) one

ends_there : (h : Headers) (l : LogLine) → is_misplaced First h l ≡ false → is_end l ≡ true → has_ranges (h.ranges ++ filter_map range_of (l ∷ [])) ≡ true
ends_there h end_line placed ends = rw (append-nil h.ranges) (ranges_there h placed)
ends_there h truncated_line placed ends = rw (append-nil h.ranges) (ranges_there h placed)
ends_there h (tested_line a b) placed ends = absurd cc
ends_there h (die_line w) placed ends = absurd cc
ends_there h (design_line w) placed ends = absurd cc
ends_there h (out_line p n) placed ends = absurd cc
ends_there h (cell_line p c w) placed ends = absurd cc
ends_there h cut_out_line placed ends = absurd cc
ends_there h (cut_chain_line w) placed ends = absurd cc
ends_there h other_line placed ends = absurd cc

-- at most one range came, and one before a closing line
pub record IsSingle (later : List LogLine) : Type 0 where
  pub one : IsOne (filter_map range_of later)
  pub there : new.is_closed later ≡ true → has_ranges (filter_map range_of later) ≡ true

single_line : (frame : LogFrame) (later : List LogLine) (l : LogLine) (closed : Bool) → new.is_closed later ≡ closed → NoneBroken (cond closed ((AFTER_CLOSING_LINE, true) ∷ []) (new.later_rules frame First (headers_in later) l)) → IsSingle later → IsSingle (later ++ l ∷ [])
single_line frame later l true closed all is = absurd (let broken : true ≡ false = all.0 in cc)
single_line frame later l false closed all is =
    let h : Headers = headers_in later in
    let placed : is_misplaced First h l ≡ false = all.1.1.1.1.1.1.1.1.0 in
    let ranges : filter_map range_of (later ++ l ∷ []) ≡ h.ranges ++ filter_map range_of (l ∷ []) = filter_map-append range_of later (l ∷ []) in
    record {
      one = rw ranges (one_more_range h l placed is.one);
      there = λ ends. rw ranges (ends_there h l placed (or_left (is_end l) (sym (list_any-append is_end later (l ∷ []) ∙ ap (λ b. b || (is_end l || false)) closed) ∙ ends)));
    }
  where
    or_left : (b : Bool) → (b || false) ≡ true → b ≡ true
    or_left true e = refl
    or_left false e = absurd cc

fault_agree : (f g : ℕ → Option ℕ) (i n : ℕ) → ((k : ℕ) → i ≤ k → k < i + n → ((j : ℕ) → i ≤ j → j < k → f j ≡ None) → f k ≡ g k) → fault_from f i n ≡ fault_from g i n
fault_agree f g i zero agree = refl
fault_agree f g i (suc n) agree = go (f i) refl (fault_agree f g (i + 1) n)
  where
    Agree : Type 0
    Agree = (k : ℕ) → i + 1 ≤ k → k < (i + 1) + n → ((j : ℕ) → i + 1 ≤ j → j < k → f j ≡ None) → f k ≡ g k

    here : f i ≡ g i
    here = agree i (omega arith) (omega arith) (λ j low high. absurd (omega (arith, low, high)))

    go : (o : Option ℕ) → f i ≡ o → (Agree → fault_from f (i + 1) n ≡ fault_from g (i + 1) n) → fault_from f i (suc n) ≡ fault_from g i (suc n)
    go (Some r) e rest = rw (sym here ∙ e, e) refl
    go None e rest = rw (sym here ∙ e, e) (rest (λ k low high none. agree k (omega arith) (omega arith) (λ j from to. elim (cases_lt i j) [
      | inl later ↦ none j (omega arith) to
      | inr le ↦ let at : j ≡ i = omega (arith, le, from) in ap f at ∙ e
    ])))

-- ---- over a scan test

module _ (t : ScanTest) (design die : List ℕ) where
  abbrev frame : LogFrame
  frame = log_frame t design die

  -- ---- the rules at a line

  words_step : (fs : List (List (List ℕ))) (closed : Bool) (h : Headers) (ws : List (List ℕ)) → IsBegun fs → IsBegun (fs ++ cond (has_words ws) (ws ∷ []) []) → IsOne h.ranges
      → lowest (new.rules_of_words frame (first_version FailLog fs) closed h ws) ≡ lowest (v1.rules_of_words frame (is_some (first_version FailLog fs)) closed (before h) ws)
  words_step fs closed h ws begun after one = go (has_words ws) refl fs begun after
    where
      later : (closed : Bool) → lowest (cond closed ((AFTER_CLOSING_LINE, true) ∷ []) (new.later_rules frame First h (new.log_line frame.form First ws))) ≡ lowest (cond closed ((AFTER_CLOSING_LINE, true) ∷ []) (v1.later_rules frame (before h) (v1.log_line ws)))
      later true = refl
      later false = rw (same_line ws) (same_later frame h (v1.log_line ws) one)

      go : (b : Bool) → has_words ws ≡ b → (fs : List (List (List ℕ))) → IsBegun fs → IsBegun (fs ++ cond (has_words ws) (ws ∷ []) [])
          → lowest (new.rules_of_words frame (first_version FailLog fs) closed h ws) ≡ lowest (v1.rules_of_words frame (is_some (first_version FailLog fs)) closed (before h) ws)
      go false e fs begun after = rw e refl
      go true e [] begun after = let title : v1.is_title ws ≡ true = rw e at after in rw (e, title_first ws title, title) refl
      go true e (w ∷ more) begun after = rw (e, version_first w begun) (later closed)

  single_at : (version : LogVersion) → version ≡ First → (later : List LogLine) (ws : List (List ℕ)) → NoneBroken (new.rules_after frame (Some version) (new.is_closed later) (headers_in later) ws) → IsSingle later → IsSingle (later ++ new.log_line FailLog version ws ∷ [])
  single_at version e later ws all is =
      let rules : NoneBroken (cond (new.is_closed later) ((AFTER_CLOSING_LINE, true) ∷ []) (new.later_rules frame First (headers_in later) (new.log_line FailLog First ws))) = rw e at all in
      rw e (single_line frame later (new.log_line FailLog First ws) (new.is_closed later) refl rules is)

  single_words : (fs : List (List (List ℕ))) (ws : List (List ℕ)) → IsBegun fs → NoneBroken (new.rules_of_words frame (first_version FailLog fs) (new.is_closed (lines_after FailLog fs)) (headers_in (lines_after FailLog fs)) ws)
      → IsSingle (lines_after FailLog fs) → IsSingle (lines_after FailLog fs ++ later_of FailLog (first_version FailLog fs) ws)
  single_words fs ws begun all is = go (has_words ws) refl fs begun all is
    where
      go : (b : Bool) → has_words ws ≡ b → (fs : List (List (List ℕ))) → IsBegun fs → NoneBroken (new.rules_of_words frame (first_version FailLog fs) (new.is_closed (lines_after FailLog fs)) (headers_in (lines_after FailLog fs)) ws)
          → IsSingle (lines_after FailLog fs) → IsSingle (lines_after FailLog fs ++ later_of FailLog (first_version FailLog fs) ws)
      go false e fs begun all is = rw (e, append-nil (lines_after FailLog fs)) is
      go true e [] begun all is = rw e is
      go true e (w ∷ more) begun all is = rw e (single_at (version_of FailLog w) (version_first w begun) (lines_after FailLog (w ∷ more)) ws (rw e at all) is)

  module _ (ls : List (List ℕ)) (first : v1.is_version_1 ls ≡ true) where
    front_begun : (i : ℕ) → IsBegun (filled (take i ls))
    front_begun i =
        let parts : filled ls ≡ filled (take i ls) ++ filled (drop i ls) =
        ap filled (sym (take-append-drop i ls)) ∙ ap (filter has_words) (map-append words (take i ls) (drop i ls)) ∙ filter-append has_words (map words (take i ls)) (map words (drop i ls)) in
        begun_front (filled (take i ls)) (filled (drop i ls)) (ap v1.begins_with_title (sym parts) ∙ first)

    next_filled : (i : ℕ) → i < length ls → filled (take (i + 1) ls) ≡ filled (take i ls) ++ cond (has_words (words (line_at ls i))) (words (line_at ls i) ∷ []) []
    next_filled i lt = ap filled (take_more ls i [] lt) ∙ ap (filter has_words) (map_push words (take i ls) (line_at ls i)) ∙ filled_push (word_lines (take i ls)) (words (line_at ls i))

    single_before : (i : ℕ) → i ≤ length ls → ((k : ℕ) → k < i → new.log_rule frame ls k ≡ None) → IsSingle (lines_after FailLog (filled (take i ls)))
    single_before zero le none = record { one = omega arith; there = λ closed. absurd cc }
    single_before (suc i) le none =
        let lt : i < length ls = omega arith in
        let fs : List (List (List ℕ)) = filled (take i ls) in
        let ws : List (List ℕ) = words (line_at ls i) in
        let later : List LogLine = lines_after FailLog fs in
        let rule : lowest (new.log_rules frame (first_version FailLog fs) (new.is_closed later) (headers_in later) (line_at ls i)) ≡ None = rw (differs i (length ls) lt) at (none i (omega arith)) in
        let table = none_broken (new.log_rules frame (first_version FailLog fs) (new.is_closed later) (headers_in later) (line_at ls i)) rule in
        let next : lines_after FailLog (filled (take (i + 1) ls)) ≡ later ++ later_of FailLog (first_version FailLog fs) ws =
        ap (λ wss. lines_after FailLog (filter has_words wss)) (ap word_lines (take_more ls i [] lt) ∙ map_push words (take i ls) (line_at ls i)) ∙ later_push FailLog (word_lines (take i ls)) ws in
        let one : suc i ≡ i + 1 = omega arith in
        rw (one, next) (single_words fs ws (front_begun i) table.1 (single_before i (omega arith) (λ k lt. none k (omega arith))))

    same_rule : (i : ℕ) → i < length ls + 1 → ((k : ℕ) → k < i → new.log_rule frame ls k ≡ None) → new.log_rule frame ls i ≡ v1.log_rule frame ls i
    same_rule i within none = elim (cases_lt i (length ls)) [
      | inl lt ↦
          let fs : List (List (List ℕ)) = filled (take i ls) in
          let ws : List (List ℕ) = words (line_at ls i) in
          let later : List LogLine = lines_after FailLog fs in
          let single : IsSingle later = single_before i (omega arith) none in
          let after : IsBegun (fs ++ cond (has_words ws) (ws ∷ []) []) = rw (next_filled i lt) at (front_begun (i + 1)) in
          let new_is : new.log_rule frame ls i ≡ lowest ((REFUSED_LOG_BYTE, has_refused_byte (line_at ls i)) ∷ new.rules_of_words frame (first_version FailLog fs) (new.is_closed later) (headers_in later) ws) = rw (differs i (length ls) lt) refl in
          let old_lines : v1.later_lines (take i ls) ≡ later = sym (same_later_lines fs (front_begun i)) in
          let old_is : v1.log_rule frame ls i ≡ lowest ((REFUSED_LOG_BYTE, has_refused_byte (line_at ls i)) ∷ v1.rules_of_words frame (is_some (first_version FailLog fs)) (new.is_closed later) (before (headers_in later)) ws) =
          rw (differs i (length ls) lt) (ap (λ (ls' : List LogLine). lowest (v1.log_rules frame (v1.is_titled (take i ls)) (v1.is_closed ls') (v1.headers_in ls') (line_at ls i))) old_lines
          ∙ ap (λ (b : Bool). lowest (v1.log_rules frame b (v1.is_closed later) (v1.headers_in later) (line_at ls i))) (titled_is (word_lines (take i ls)))
          ∙ ap (λ (h : v1.Headers). lowest (v1.log_rules frame (is_some (first_version FailLog fs)) (v1.is_closed later) h (line_at ls i))) (same_headers later)) in
          new_is ∙ ap (λ (o : Option ℕ). cond (has_refused_byte (line_at ls i)) (Some REFUSED_LOG_BYTE) o) (words_step fs (new.is_closed later) (headers_in later) ws (front_begun i) after single.one) ∙ sym old_is
      | inr past ↦
          let at : i ≡ length ls = omega arith in
          let whole : take (length ls) ls ≡ ls = take_all (length ls) ls (omega arith) in
          let begun : IsBegun (filled ls) = rw whole at (front_begun (length ls)) in
          let old_lines : v1.later_lines ls ≡ lines_after FailLog (filled ls) = sym (same_later_lines (filled ls) begun) in
          let new_is : new.log_rule frame ls (length ls) ≡ lowest (new.log_end_rules (is_some (first_version FailLog (filled ls))) (new.is_closed (lines_after FailLog (filled ls)))) = rw (same (length ls)) refl in
          let old_is : v1.log_rule frame ls (length ls) ≡ lowest (new.log_end_rules (is_some (first_version FailLog (filled ls))) (new.is_closed (lines_after FailLog (filled ls)))) =
          rw (same (length ls)) (ap (λ (ls' : List LogLine). lowest (new.log_end_rules (v1.is_titled ls) (v1.is_closed ls'))) old_lines
          ∙ ap (λ (b : Bool). lowest (new.log_end_rules b (new.is_closed (lines_after FailLog (filled ls))))) (titled_is (word_lines ls))) in
          ap (new.log_rule frame ls) at ∙ new_is ∙ sym old_is ∙ ap (v1.log_rule frame ls) (sym at)
    ]

    pub same_fault : first_fault (new.log_rule frame ls) (length ls + 1) ≡ first_fault (v1.log_rule frame ls) (length ls + 1)
    same_fault = fault_agree (new.log_rule frame ls) (v1.log_rule frame ls) 0 (length ls + 1) (λ k low high none. same_rule k (omega (arith, high)) (λ j lt. none j (omega arith) lt))

    -- ---- what it stands for

    pub same_log : first_fault (new.log_rule frame ls) (length ls + 1) ≡ None → SaysAsBefore (new.log_of_lines frame (new.later_lines frame.form ls)) (v1.log_of_lines frame (v1.later_lines ls))
    same_log none =
        let whole : take (length ls) ls ≡ ls = take_all (length ls) ls (omega arith) in
        let begun : IsBegun (filled ls) = rw whole at (front_begun (length ls)) in
        let each : (k : ℕ) → k < length ls + 1 → new.log_rule frame ls k ≡ None = λ k lt. fault_from-clean (new.log_rule frame ls) 0 (length ls + 1) none k (omega arith) (omega arith) in
        let single : IsSingle (lines_after FailLog (filled ls)) = rw whole at (single_before (length ls) (omega arith) (λ k lt. each k (omega arith))) in
        let closed : new.is_closed (lines_after FailLog (filled ls)) ≡ true =
        let rule : lowest (new.log_end_rules (is_some (first_version FailLog (filled ls))) (new.is_closed (lines_after FailLog (filled ls)))) ≡ None = rw (same (length ls)) at (each (length ls) (omega arith)) in
        holds (new.is_closed (lines_after FailLog (filled ls))) (none_broken (new.log_end_rules (is_some (first_version FailLog (filled ls))) (new.is_closed (lines_after FailLog (filled ls)))) rule).1.0 in
        let later : List LogLine = lines_after FailLog (filled ls) in
        let cuts : filter_map (group_cut frame) later ≡ [] = ap (filter_map (group_cut frame)) (same_later_lines (filled ls) begun) ∙ no_cuts frame (v1.without_first (filled ls)) in
        let alike = says frame later (filter_map range_of later) refl single.one (single.there closed) cuts in
        rw (← same_later_lines (filled ls) begun) alike
      where
        says : (frame : LogFrame) (later : List LogLine) (ranges : List Range) → filter_map range_of later ≡ ranges → IsOne ranges → has_ranges ranges ≡ true → filter_map (group_cut frame) later ≡ [] → SaysAsBefore (new.log_of_lines frame later) (v1.log_of_lines frame later)
        says frame later [] e one there cuts = absurd cc
        says frame later (r ∷ s ∷ more) e one there cuts = absurd (omega (arith, one))
        says frame later (r ∷ []) e one there cuts = record { fails = refl; covers = λ b. rw (cuts, e, same_ranges later ∙ ap (map pair) e) (bits ((leb r.first b.pattern && leb b.pattern r.last)) (not (list_any new.is_truncated later) || list_any (not_after b) (new.bits_listed frame later))) }
          where
            bits : (x y : Bool) → ((x || false) && (y && true)) ≡ (x && y)
            bits true true = refl
            bits true false = refl
            bits false y = refl

  abbrev old_log : List ℕ → LogV1
  old_log bytes = v1.log_of_lines frame (v1.later_lines (text_lines bytes))

  abbrev log_now : List ℕ → LogFacts
  log_now bytes = new.log_of_lines frame (new.later_lines frame.form (text_lines bytes))

  pub gives_v1 : (bytes : List ℕ) (result : Result LogFacts ReadFault) → v1.is_version_1 (text_lines bytes) ≡ true → Gives (λ log. log) result (new.log_reading frame bytes) → GivesV1 result (v1.log_v1 frame bytes)
  gives_v1 bytes result first gives = go (new.log_fault frame bytes) refl result gives
    where
      same_faults : new.log_fault frame bytes ≡ v1.log_fault frame bytes
      same_faults = same_fault (text_lines bytes) first

      go : (o : Option (ℕ × ℕ)) → new.log_fault frame bytes ≡ o → (result : Result LogFacts ReadFault) → Gives (λ log. log) result (new.log_reading frame bytes) → GivesV1 result (v1.log_v1 frame bytes)
      go None none (Ok log) gives =
          let is : (log_now bytes) ≡ log = (was_read (new.log_fault frame bytes) (log_now bytes) log gives).1 in
          ((old_log bytes), ap (λ f. refused_or f (old_log bytes)) (sym same_faults ∙ none), subst (λ (l : LogFacts). SaysAsBefore l (old_log bytes)) is (same_log (text_lines bytes) first none))
      go (Some f) some (Ok log) gives = absurd (let none = (was_read (new.log_fault frame bytes) (log_now bytes) log gives).0 in let bad : Some f ≡ None = sym some ∙ none in cc)
      go None none (Err (Text fault)) gives = absurd (let bad : refused_or None (log_now bytes) ≡ Err (fault.line, fault.rule) = ap (λ o. refused_or o (log_now bytes)) (sym none) ∙ gives in cc)
      go (Some f) some (Err (Text fault)) gives = let is : refused_or (Some f) (log_now bytes) ≡ Err (fault.line, fault.rule) = ap (λ o. refused_or o (log_now bytes)) (sym some) ∙ gives in ap (λ o. refused_or o (old_log bytes)) (sym same_faults ∙ some) ∙ cc
      go o e (Err NoMemory) gives = tt
