-- One more line of a log.
use Rattle.std.proofs.Common.{◌≡◌, ℕ, ◌+◌, ◌-◌, ◌<◌, true, false, eqb, List, [], ◌∷◌, ◌++◌, length, take, get_or, Some, None, is_some, Ok, Err, refl, sym, ap, ◌∙◌, arith, Bor}
use Rattle.std.proofs.lemmas.Bool.Decides.{nat_tests}
use Rattle.std.specs.List.{list_any, filter_map}
use Rattle.std.proofs.lemmas.List.{take_more, map_push, length-map, get_or-map, take_all}
use Rattle.scan_model.specs.Lines.{line_at}
use Rattle.scan_model.specs.Words.{words, word_lines}
use Rattle.scan_model.specs.TextFaults.{lowest, fault_from, first_fault, refused_or}
use Rattle.scan_model.specs.LogText.{LogFrame, LogLine, Headers, log_rule, log_rules, later_lines, title_of, is_closed, headers_in, is_truncated, group_cut, log_end_rules}
use Rattle.scan_model.proofs.FaultSteps.{fault_goes_on, fault_is_here, fault_is_none}
use Rattle.text_parts.specs.Views.{nows}
use Rattle.fail_logs.specs.Frames.{headers_view}
use Rattle.fail_logs.specs.BitNumbers.{numbers_named}
use Rattle.fail_logs.specs.LineFacts.{LineFacts, facts_of, draft_facts}
use Rattle.fail_logs.specs.LogDrafts.{later_of, Takes, IsAfter}
use Rattle.fail_logs.specs.declared.log_draft.LogDraft.{LogDraft}
use Rattle.fail_logs.proofs.Later.{later_push, title_push, closed_push, truncated_push, headers_push, fails_push, cuts_push}

pub differs : (i n : ℕ) → i < n → eqb i n ≡ false
differs i n lt = grind (arith, nat_tests)

pub same : (n : ℕ) → eqb n n ≡ true
same n = grind (arith, nat_tests)

-- the draft of a log after one more line
after_takes : (frame : LogFrame) (rows : List (List ℕ)) (old new : LogDraft) (before : List (List ℕ)) (line : List ℕ) → IsAfter frame rows old before → Takes frame rows old new (words line) → IsAfter frame rows new (before ++ line ∷ [])
after_takes frame rows old new before line after takes =
    let push : word_lines (before ++ line ∷ []) ≡ word_lines before ++ words line ∷ [] = map_push words before line in
    let more : later_of frame.form old.title (words line) ≡ later_of frame.form (title_of frame.form before) (words line) = ap (λ t. later_of frame.form t (words line)) after.title in
    let lines : later_lines frame.form (before ++ line ∷ []) ≡ later_lines frame.form before ++ later_of frame.form old.title (words line) = rw (push, more) (later_push frame.form (word_lines before) (words line)) in
    let added = later_of frame.form old.title (words line) in
    record {
      title = takes.title ∙ rw (after.title, push) (sym (title_push frame.form (word_lines before) (words line)));
      closed = takes.closed ∙ rw after.closed (sym (ap is_closed lines ∙ closed_push (later_lines frame.form before) added));
      truncated = takes.truncated ∙ rw after.truncated (sym (ap (list_any is_truncated) lines ∙ truncated_push (later_lines frame.form before) added));
      headers = takes.headers ∙ rw after.headers (sym (ap headers_in lines ∙ headers_push (later_lines frame.form before) added));
      fails = takes.fails ∙ rw after.fails (sym (ap (numbers_named frame rows) lines ∙ fails_push frame rows (later_lines frame.form before) added));
      cuts = takes.cuts ∙ rw after.cuts (sym (ap (filter_map (group_cut frame)) lines ∙ cuts_push frame (later_lines frame.form before) added));
    }

facts_after : (frame : LogFrame) (rows : List (List ℕ)) (draft : LogDraft) (before : List (List ℕ)) → IsAfter frame rows draft before → draft_facts draft ≡ facts_of frame rows (later_lines frame.form before)
facts_after frame rows draft before after =
    let ls : List LogLine = later_lines frame.form before in
    rw (after.truncated, after.fails, after.cuts) (ap (λ (h : Headers). let facts : LineFacts = record { ranges = h.ranges; truncated = list_any is_truncated ls; fails = numbers_named frame rows ls; cuts = filter_map (group_cut frame) ls } in facts) after.headers)

module _ (frame : LogFrame) (rows : List (List ℕ)) (ls : List (List ℕ)) (items : List (Bor (List ℕ))) (i : ℕ) (d : Bor (List ℕ)) (draft : LogDraft)
    (all : nows items ≡ ls)
    (so_far : fault_from (log_rule frame ls) i ((length ls + 1) - i) ≡ first_fault (log_rule frame ls) (length ls + 1))
    (after : IsAfter frame rows draft (take i ls)) where
  lines_length : length items ≡ length ls
  lines_length = sym (length-map items (λ x. x.now)) ∙ ap length all

  line_is : i < length items → (get_or items i d).now ≡ line_at ls i
  line_is lt = sym (get_or-map (λ x. x.now) items i d [] lt) ∙ ap (λ ts. line_at ts i) all

  rule_is : i < length items → lowest (log_rules frame draft.title draft.closed (headers_view draft.headers) (get_or items i d).now) ≡ log_rule frame ls i
  rule_is lt =
      let lt' : i < length ls = omega (arith, lines_length) in
      ap (λ h. lowest (log_rules frame draft.title draft.closed h (get_or items i d).now)) after.headers
      ∙ rw (after.title, after.closed, line_is lt, differs i (length ls) lt') refl

  pub line_is_faulty : (r : ℕ) → i < length items → Some r ≡ lowest (log_rules frame draft.title draft.closed (headers_view draft.headers) (get_or items i d).now)
      → refused_or (first_fault (log_rule frame ls) (length ls + 1)) (facts_of frame rows (later_lines frame.form ls)) ≡ Err (i + 1, r)
  line_is_faulty r lt some =
      let lt' : i < length ls + 1 = omega (arith, lines_length) in
      ap (λ f. refused_or f (facts_of frame rows (later_lines frame.form ls))) (fault_is_here (log_rule frame ls) (length ls + 1) i _ r lt' (sym (some ∙ rule_is lt)) so_far)

  pub no_fault_more : i < length items → None ≡ lowest (log_rules frame draft.title draft.closed (headers_view draft.headers) (get_or items i d).now)
      → fault_from (log_rule frame ls) (i + 1) ((length ls + 1) - (i + 1)) ≡ first_fault (log_rule frame ls) (length ls + 1)
  no_fault_more lt none =
      let lt' : i < length ls + 1 = omega (arith, lines_length) in
      fault_goes_on (log_rule frame ls) (length ls + 1) i _ lt' (sym (none ∙ rule_is lt)) so_far

  pub after_more : (new : LogDraft) → i < length items → Takes frame rows draft new (words (get_or items i d).now) → IsAfter frame rows new (take (i + 1) ls)
  after_more new lt takes =
      let lt' : i < length ls = omega (arith, lines_length) in
      rw (take_more ls i [] lt') (after_takes frame rows draft new (take i ls) (line_at ls i) after (rw (line_is lt) at takes))

  end_is : i ≡ length items → lowest (log_end_rules (is_some draft.title) draft.closed) ≡ log_rule frame ls i
  end_is done =
      let n : i ≡ length ls = omega (arith, lines_length) in
      let whole : take i ls ≡ ls = take_all i ls (omega arith) in
      rw (after.title, after.closed, whole, n, same (length ls)) refl

  pub end_is_faulty : (r : ℕ) → i ≡ length items → lowest (log_end_rules (is_some draft.title) draft.closed) ≡ Some r → refused_or (first_fault (log_rule frame ls) (length ls + 1)) (facts_of frame rows (later_lines frame.form ls)) ≡ Err (length items + 1, r)
  end_is_faulty r done some =
      let lt' : i < length ls + 1 = omega (arith, lines_length) in
      ap (λ f. refused_or f (facts_of frame rows (later_lines frame.form ls))) (fault_is_here (log_rule frame ls) (length ls + 1) i _ r lt' (sym (end_is done) ∙ some) so_far)
      ∙ ap (λ k. Err (k + 1, r)) done

  pub log_is_whole : i ≡ length items → lowest (log_end_rules (is_some draft.title) draft.closed) ≡ None → refused_or (first_fault (log_rule frame ls) (length ls + 1)) (facts_of frame rows (later_lines frame.form ls)) ≡ Ok (draft_facts draft)
  log_is_whole done none =
      let lt' : i < length ls + 1 = omega (arith, lines_length) in
      let whole : take i ls ≡ ls = take_all i ls (omega (arith, lines_length)) in
      let past = fault_goes_on (log_rule frame ls) (length ls + 1) i _ lt' (sym (end_is done) ∙ none) so_far in
      ap (λ f. refused_or f (facts_of frame rows (later_lines frame.form ls))) (fault_is_none (log_rule frame ls) (length ls + 1) (i + 1) _ (omega (arith, lines_length)) past)
      ∙ ap Ok (ap (λ ts. facts_of frame rows (later_lines frame.form ts)) (sym whole) ∙ sym (facts_after frame rows draft (take i ls) after))
