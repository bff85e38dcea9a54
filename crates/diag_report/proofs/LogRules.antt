-- The rules of a log on its lines, one by one.
use Rattle.std.proofs.Common.{◌≡◌, ℕ, suc, ◌+◌, ◌<◌, ◌≤◌, Bool, true, false, not, ◌&&◌, ◌||◌, cond, ltb, leb, is_some, List, [], ◌∷◌, ◌++◌, length, map, take, Option, Some, None, unwrap_or, refl, ap, ◌∙◌, arith}
use Rattle.std.specs.Prelude.{option_map, slice_index_or}
use Rattle.std.proofs.lemmas.Bool.{eq-eqb, ne_eqb}
use Rattle.std.proofs.lemmas.Bool.Decides.{nat_tests}
use Rattle.scan_model.specs.Lines.{has_refused_byte, line_at}
use Rattle.scan_model.specs.Words.{words, has_words, number_of}
use Rattle.scan_model.specs.TextFaults.{lowest, or_else, fault_from}
use Rattle.scan_model.specs.declared.rules.TheConstants.{REFUSED_LOG_BYTE, NO_TITLE, NO_NUMBER, BAD_RANGE, NOWHERE, UNTESTED_PATTERN, OUT_OF_SHIFT, MISPLACED_LINE}
use Rattle.scan_model.specs.ReportText.{spaced}
use Rattle.scan_model.specs.declared.logs.Range.{Range}
use Rattle.scan_model.specs.declared.logs.LogForm.{LogForm}
use Rattle.scan_model.specs.declared.logs.LogForm.TheVariants.{FailLog}
use Rattle.scan_model.specs.declared.logs.LogVersion.{LogVersion}
use Rattle.scan_model.specs.declared.logs.LogVersion.TheVariants.{First}
use Rattle.scan_model.specs.Coverage.{some_holds}
use Rattle.scan_model.specs.LogText.{LogFrame, Headers, tested_line, out_line, cell_line, end_line, log_line, later_lines, headers_in, has_all, has_ranges, title_of, title_version, version_of, is_closed, is_untested, has_output, chain_length, later_rules, rules_of_words, log_rules, log_end_rules, log_rule}
use Rattle.diag_report.proofs.PlainWords.{IsLine, AreLines, none_refused, words_of_line, later_back, title_back}
use Rattle.diag_report.proofs.LogForms.{title_words}

-- ---- a line among lines

pub front_lines : (before rest : List (List (List ℕ))) → AreLines (before ++ rest) → AreLines before
front_lines [] rest names = tt
front_lines (ws ∷ before) rest names = (names.0, front_lines before rest names.1)

pub back_lines : (before rest : List (List (List ℕ))) → AreLines (before ++ rest) → AreLines rest
back_lines [] rest names = names
back_lines (ws ∷ before) rest names = back_lines before rest names.1

take_front : (before rest : List (List (List ℕ))) → take (length before) (map spaced (before ++ rest)) ≡ map spaced before
take_front [] rest = refl
take_front (ws ∷ before) rest = ap (λ (ls : List (List ℕ)). spaced ws ∷ ls) (take_front before rest)

line_there : (before : List (List (List ℕ))) (ws : List (List ℕ)) (after : List (List (List ℕ))) → line_at (map spaced (before ++ ws ∷ after)) (length before) ≡ spaced ws
line_there [] ws after = refl
line_there (x ∷ before) ws after = line_there before ws after

inside : (before : List (List (List ℕ))) (ws : List (List ℕ)) (after : List (List (List ℕ))) → length before < length (map spaced (before ++ ws ∷ after))
inside [] ws after = omega arith
inside (x ∷ before) ws after = omega (arith, inside before ws after)

rules_are : (frame : LogFrame) (title : Option LogVersion) (closed refused : Bool) (h k : Headers) (v ws : List (List ℕ)) → title ≡ Some First → closed ≡ false → refused ≡ false → h ≡ k → v ≡ ws → has_words ws ≡ true
    → lowest ((REFUSED_LOG_BYTE, refused) ∷ rules_of_words frame title closed h v) ≡ lowest (later_rules frame First k (log_line frame.form First ws))
rules_are frame title closed refused h k v ws is_titled is_unclosed is_plain same_headers same_words some =
    ap (λ (r : Bool). lowest ((REFUSED_LOG_BYTE, r) ∷ rules_of_words frame title closed h v)) is_plain ∙ ap (λ (o : Option LogVersion). lowest (rules_of_words frame o closed h v)) is_titled
    ∙ ap (λ (b : Bool). lowest (rules_of_words frame (Some First) b h v)) is_unclosed ∙ ap (λ (x : Headers). lowest (rules_of_words frame (Some First) false x v)) same_headers
    ∙ ap (λ (x : List (List ℕ)). lowest (rules_of_words frame (Some First) false k x)) same_words ∙ ap (λ (b : Bool). lowest (cond (not b) [] (later_rules frame First k (log_line frame.form First ws)))) some

-- the rules at a line
abbrev rules_at : LogFrame → List (List ℕ) → List ℕ → List (ℕ × Bool)
rules_at frame before line = log_rules frame (title_of frame.form before) (is_closed (later_lines frame.form before)) (headers_in (later_lines frame.form before)) line

module _ (frame : LogFrame) (x : List (List ℕ)) (xs : List (List (List ℕ))) (ws : List (List ℕ)) (after : List (List (List ℕ))) (names : AreLines (x ∷ (xs ++ ws ∷ after))) (first : version_of frame.form x ≡ First) where
  abbrev ls : List (List ℕ)
  ls = map spaced (x ∷ (xs ++ ws ∷ after))

  front_names : AreLines (x ∷ xs)
  front_names = front_lines (x ∷ xs) (ws ∷ after) names

  -- the rules of a later line that no closing line precedes
  pub later_rule : is_closed (map (log_line frame.form First) xs) ≡ false → log_rule frame ls (length (x ∷ xs)) ≡ lowest (later_rules frame First (headers_in (map (log_line frame.form First) xs)) (log_line frame.form First ws))
  later_rule unclosed =
      let own : IsLine ws = (back_lines (x ∷ xs) (ws ∷ after) names).0 in
      let at = inside (x ∷ xs) ws after in
      let forms : later_lines frame.form (map spaced (x ∷ xs)) ≡ map (log_line frame.form First) xs = later_back frame.form x xs front_names ∙ ap (λ (v : LogVersion). map (log_line frame.form v) xs) first in
      let titled : title_of frame.form (map spaced (x ∷ xs)) ≡ Some First = title_back frame.form x xs front_names ∙ ap Some first in
      ap (λ (b : Bool). lowest (cond b (log_end_rules (is_some (title_of frame.form ls)) (is_closed (later_lines frame.form ls))) (rules_at frame (take (length (x ∷ xs)) ls) (line_at ls (length (x ∷ xs))))))
      (ne_eqb (length (x ∷ xs)) (length ls) (λ e. omega (arith, at, e)))
      ∙ ap (λ (front : List (List ℕ)). lowest (rules_at frame front (line_at ls (length (x ∷ xs))))) (take_front (x ∷ xs) (ws ∷ after))
      ∙ ap (λ (l : List ℕ). lowest (rules_at frame (map spaced (x ∷ xs)) l)) (line_there (x ∷ xs) ws after)
      ∙ rules_are frame _ _ _ _ (headers_in (map (log_line frame.form First) xs)) _ ws titled (ap is_closed forms ∙ unclosed) (none_refused ws own.1) (ap headers_in forms) (words_of_line ws own) own.0

-- the rules of the title
title_are : (frame : LogFrame) (closed refused : Bool) (h : Headers) (v : List (List ℕ)) → frame.form ≡ FailLog → refused ≡ false → v ≡ title_words → lowest ((REFUSED_LOG_BYTE, refused) ∷ rules_of_words frame None closed h v) ≡ None
title_are frame closed refused h v form is_plain same =
    ap (λ (r : Bool). lowest ((REFUSED_LOG_BYTE, r) ∷ rules_of_words frame None closed h v)) is_plain ∙ ap (λ (x : List (List ℕ)). lowest (rules_of_words frame None closed h x)) same
    ∙ ap (λ (o : LogForm). lowest ((NO_TITLE, not (is_some (title_version o title_words))) ∷ [])) form

pub title_rule : (frame : LogFrame) (after : List (List (List ℕ))) → frame.form ≡ FailLog → AreLines (title_words ∷ after) → log_rule frame (map spaced (title_words ∷ after)) 0 ≡ None
title_rule frame after form names =
    let ls : List (List ℕ) = map spaced (title_words ∷ after) in
    ap (λ (b : Bool). lowest (cond b (log_end_rules (is_some (title_of frame.form ls)) (is_closed (later_lines frame.form ls))) (rules_at frame (take 0 ls) (line_at ls 0))))
    (ne_eqb 0 (length ls) (λ e. absurd (omega (arith, e))))
    ∙ title_are frame (is_closed (later_lines frame.form (take 0 ls))) (has_refused_byte (spaced title_words)) (headers_in (later_lines frame.form (take 0 ls))) (words (spaced title_words)) form (none_refused title_words names.0.1) (words_of_line title_words names.0)

-- the rules past the last line
pub end_rule : (frame : LogFrame) (x : List (List ℕ)) (xs : List (List (List ℕ))) → AreLines (x ∷ xs) → is_closed (map (log_line frame.form (version_of frame.form x)) xs) ≡ true → log_rule frame (map spaced (x ∷ xs)) (length (map spaced (x ∷ xs))) ≡ None
end_rule frame x xs names closed =
    let ls : List (List ℕ) = map spaced (x ∷ xs) in
    let n : ℕ = length ls in
    ap (λ (b : Bool). lowest (cond b (log_end_rules (is_some (title_of frame.form ls)) (is_closed (later_lines frame.form ls))) (rules_at frame (take n ls) (line_at ls n)))) (eq-eqb n n refl)
    ∙ ap (λ (o : Option LogVersion). lowest (log_end_rules (is_some o) (is_closed (later_lines frame.form ls)))) (title_back frame.form x xs names) ∙ ap (λ (b : Bool). lowest (log_end_rules true b)) (ap is_closed (later_back frame.form x xs names) ∙ closed)

-- ---- forms that break no rule

-- the patterns up to the last
abbrev pub whole : ℕ → Range
whole last = record { first = 0; last = last }

pub tested_accepted : (frame : LogFrame) (a b : List ℕ) (last : ℕ) (h : Headers) → number_of a ≡ Some 0 → number_of b ≡ Some last → last < length frame.shifts → h.ranges ≡ [] → lowest (later_rules frame First h (tested_line a b)) ≡ None
tested_accepted frame a b last h is_a is_b few first =
    ap (λ (o : Option ℕ). broken o (number_of b) h.ranges) is_a ∙ ap (λ (o : Option ℕ). broken (Some 0) o h.ranges) is_b ∙ ap (λ (r : List Range). broken (Some 0) (Some last) r) first
    ∙ ap (λ (x : Bool). lowest ((BAD_RANGE, x) ∷ [])) in_order
  where
    broken : Option ℕ → Option ℕ → List Range → Option ℕ
    broken o p range = lowest ((NO_NUMBER, not (is_some o && is_some p)) ∷ (BAD_RANGE, ltb (unwrap_or p 0) (unwrap_or o 0) || leb (length frame.shifts) (unwrap_or p 0)) ∷ (UNTESTED_PATTERN, is_untested range None) ∷ (MISPLACED_LINE, has_ranges range) ∷ [])

    or_both : (x y : Bool) → x ≡ false → y ≡ false → (x || y) ≡ false
    or_both x y e f = rw (e, f) refl

    in_order : (ltb last 0 || leb (length frame.shifts) last) ≡ false
    in_order = or_both (ltb last 0) (leb (length frame.shifts) last) (grind (arith, nat_tests)) (grind (arith, nat_tests, few))

in_range : (w last : ℕ) → w ≤ last → not (some_holds (whole last ∷ []) w) ≡ false
in_range w last le =
    let low : leb 0 w ≡ true = grind (arith, nat_tests) in
    let high : leb w last ≡ true = grind (arith, nat_tests, le) in
    rw (low, high) refl

pub out_accepted : (frame : LogFrame) (h : Headers) (p n : List ℕ) (w last : ℕ) → number_of p ≡ Some w → has_output frame n ≡ true → h.ranges ≡ whole last ∷ [] → w ≤ last → slice_index_or frame.shifts w false ≡ false → has_all h ≡ true
    → lowest (later_rules frame First h (out_line p n)) ≡ None
out_accepted frame h p n w last number there tested le captures all =
    ap (λ (o : Option ℕ). broken o (has_output frame n) h.ranges (has_all h)) number ∙ ap (λ (b : Bool). broken (Some w) b h.ranges (has_all h)) there
    ∙ ap (λ (r : List Range). broken (Some w) true r (has_all h)) tested ∙ ap (λ (b : Bool). broken (Some w) true (whole last ∷ []) b) all
    ∙ ap (λ (b : Bool). lowest ((UNTESTED_PATTERN, b) ∷ (OUT_OF_SHIFT, slice_index_or frame.shifts w false) ∷ [])) (in_range w last le) ∙ ap (λ (b : Bool). lowest ((OUT_OF_SHIFT, b) ∷ [])) captures
  where
    broken : Option ℕ → Bool → List Range → Bool → Option ℕ
    broken o there range headers = lowest ((NO_NUMBER, not (is_some o)) ∷ (NOWHERE, not there) ∷ (UNTESTED_PATTERN, is_untested range o) ∷ (OUT_OF_SHIFT, slice_index_or frame.shifts (unwrap_or o 0) false) ∷ (MISPLACED_LINE, not headers) ∷ [])

pub cell_accepted : (frame : LogFrame) (h : Headers) (p c s : List ℕ) (w i last : ℕ) → number_of p ≡ Some w → number_of s ≡ Some i → i < chain_length frame c → h.ranges ≡ whole last ∷ [] → w ≤ last → has_all h ≡ true
    → lowest (later_rules frame First h (cell_line p c s)) ≡ None
cell_accepted frame h p c s w i last number position there tested le all =
    let short : ltb i (chain_length frame c) ≡ true = grind (arith, nat_tests, there) in
    ap (λ (o : Option ℕ). broken o (number_of s) h.ranges (has_all h)) number ∙ ap (λ (o : Option ℕ). broken (Some w) o h.ranges (has_all h)) position
    ∙ ap (λ (r : List Range). broken (Some w) (Some i) r (has_all h)) tested ∙ ap (λ (b : Bool). broken (Some w) (Some i) (whole last ∷ []) b) all
    ∙ ap (λ (b : Bool). lowest ((NOWHERE, not b) ∷ (UNTESTED_PATTERN, not (some_holds (whole last ∷ []) w)) ∷ [])) short ∙ ap (λ (b : Bool). lowest ((UNTESTED_PATTERN, b) ∷ [])) (in_range w last le)
  where
    broken : Option ℕ → Option ℕ → List Range → Bool → Option ℕ
    broken o q range headers = lowest ((NO_NUMBER, not (is_some o && is_some q)) ∷ (NOWHERE, not (ltb (unwrap_or q 0) (chain_length frame c))) ∷ (UNTESTED_PATTERN, is_untested range o) ∷ (MISPLACED_LINE, not headers) ∷ [])

pub end_accepted : (frame : LogFrame) (h : Headers) (last : ℕ) → h.ranges ≡ whole last ∷ [] → has_all h ≡ true → lowest (later_rules frame First h end_line) ≡ None
end_accepted frame h last tested all = ap (λ (r : List Range). broken r (has_all h)) tested ∙ ap (λ (b : Bool). broken (whole last ∷ []) b) all
  where
    broken : List Range → Bool → Option ℕ
    broken range headers = lowest ((UNTESTED_PATTERN, is_untested range None) ∷ (MISPLACED_LINE, not headers) ∷ [])

-- ---- no fault from a line on

pub line_passes : (rule : ℕ → Option ℕ) (i n m : ℕ) → m ≡ suc n → rule i ≡ None → fault_from rule (i + 1) n ≡ None → fault_from rule i m ≡ None
line_passes rule i n m e passes rest =
    ap (fault_from rule i) e ∙ ap (λ (o : Option ℕ). or_else (option_map (λ r. let p : ℕ × ℕ = (i + 1, r) in p) o) (fault_from rule (i + 1) n)) passes ∙ rest
