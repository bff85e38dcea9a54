-- The lines after the title, with one more line.
use Rattle.std.proofs.Common.{◌≡◌, ℕ, Bool, true, false, cond, ◌||◌, List, [], ◌∷◌, ◌++◌, Option, Some, None, refl, sym, ap, ◌∙◌, append-nil, append_assoc}
use Rattle.std.specs.List.{list_any, filter, filter_map}
use Rattle.std.specs.Option.{option_to_list}
use Rattle.std.proofs.lemmas.List.{map_push}
use Rattle.std.proofs.lemmas.List.Folds.{list_any-append}
use Rattle.std.proofs.lemmas.List.Elements.{filter-append, filter_map-append}
use Rattle.scan_model.specs.declared.logs.LogForm.{LogForm}
use Rattle.scan_model.specs.TextFaults.{or_else}
use Rattle.scan_model.specs.Words.{has_words}
use Rattle.scan_model.specs.LogText.{LogLine, Headers, die_line, design_line, tested_line, out_line, cell_line, cut_out_line, cut_chain_line, end_line, truncated_line, other_line, LogFrame, log_line, version_of, first_version, lines_after, is_end, is_truncated, is_die, is_design, is_entry, range_of, group_cut, headers_in, is_closed}
use Rattle.fail_logs.specs.HeaderLines.{with_line}
use Rattle.fail_logs.specs.BitNumbers.{number_named, numbers_named}
use Rattle.fail_logs.specs.LogDrafts.{title_after, later_by, later_of, headers_after, closed_after, truncated_after, fails_after, cuts_after}

pub or_false : (b : Bool) → (b || false) ≡ b
or_false true = refl
or_false false = refl

pub or_true : (b : Bool) → (b || true) ≡ true
or_true true = refl
or_true false = refl

-- ---- the lines with words, with one more line

pub filled_push : (ws : List (List (List ℕ))) (w : List (List ℕ)) → filter has_words (ws ++ w ∷ []) ≡ filter has_words ws ++ cond (has_words w) (w ∷ []) []
filled_push ws w = filter-append has_words ws (w ∷ []) ∙ go (has_words w) refl
  where
    go : (b : Bool) → has_words w ≡ b → filter has_words ws ++ filter has_words (w ∷ []) ≡ filter has_words ws ++ cond (has_words w) (w ∷ []) []
    go true e = rw e refl
    go false e = rw e refl

one_more : (form : LogForm) (fs : List (List (List ℕ))) (w : List (List ℕ)) → lines_after form (fs ++ w ∷ []) ≡ lines_after form fs ++ later_by form (first_version form fs) w
one_more form [] w = refl
one_more form (x ∷ fs) w = map_push (log_line form (version_of form x)) fs w

one_version : (form : LogForm) (fs : List (List (List ℕ))) (w : List (List ℕ)) → first_version form (fs ++ w ∷ []) ≡ or_else (first_version form fs) (Some (version_of form w))
one_version form [] w = refl
one_version form (x ∷ fs) w = refl

module _ (form : LogForm) (ws : List (List (List ℕ))) (w : List (List ℕ)) where
  abbrev filled : List (List (List ℕ))
  filled = filter has_words ws

  pub later_push : lines_after form (filter has_words (ws ++ w ∷ [])) ≡ lines_after form filled ++ later_of form (first_version form filled) w
  later_push = ap (lines_after form) (filled_push ws w) ∙ go (has_words w) refl
    where
      go : (b : Bool) → has_words w ≡ b → lines_after form (filled ++ cond (has_words w) (w ∷ []) []) ≡ lines_after form filled ++ later_of form (first_version form filled) w
      go true e = rw e (one_more form filled w)
      go false e = rw (e, append-nil filled) (sym (append-nil (lines_after form filled)))

  pub title_push : first_version form (filter has_words (ws ++ w ∷ [])) ≡ title_after form (first_version form filled) w
  title_push = ap (first_version form) (filled_push ws w) ∙ go (has_words w) refl
    where
      go : (b : Bool) → has_words w ≡ b → first_version form (filled ++ cond (has_words w) (w ∷ []) []) ≡ title_after form (first_version form filled) w
      go true e = rw e (one_version form filled w)
      go false e = rw (e, append-nil filled) refl

pub closed_push : (ls zs : List LogLine) → is_closed (ls ++ zs) ≡ closed_after (is_closed ls) zs
closed_push ls zs = list_any-append is_end ls zs ∙ after (is_closed ls) zs
  where
    after : (c : Bool) (zs : List LogLine) → (c || list_any is_end zs) ≡ closed_after c zs
    after c [] = or_false c
    after true (z ∷ zs) = after true zs
    after false (z ∷ zs) = after (is_end z) zs

pub truncated_push : (ls zs : List LogLine) → list_any is_truncated (ls ++ zs) ≡ truncated_after (list_any is_truncated ls) zs
truncated_push ls zs = list_any-append is_truncated ls zs ∙ after (list_any is_truncated ls) zs
  where
    after : (c : Bool) (zs : List LogLine) → (c || list_any is_truncated zs) ≡ truncated_after c zs
    after c [] = or_false c
    after true (z ∷ zs) = after true zs
    after false (z ∷ zs) = after (is_truncated z) zs

one_kept : {X Y : Type 0} (f : X → Option Y) (x : X) → filter_map f (x ∷ []) ≡ option_to_list (f x)
one_kept {X} {Y} f x = go (f x) refl
  where
    go : (o : Option Y) → f x ≡ o → filter_map f (x ∷ []) ≡ option_to_list (f x)
    go None e = rw e refl
    go (Some y) e = rw e refl

pub fails_push : (frame : LogFrame) (rows : List (List ℕ)) (ls zs : List LogLine) → numbers_named frame rows (ls ++ zs) ≡ fails_after frame rows (numbers_named frame rows ls) zs
fails_push frame rows ls [] = ap (numbers_named frame rows) (append-nil ls)
fails_push frame rows ls (z ∷ zs) =
    ap (numbers_named frame rows) (sym (append_assoc ls (z ∷ []) zs)) ∙ fails_push frame rows (ls ++ z ∷ []) zs
    ∙ ap (λ ns. fails_after frame rows ns zs) (filter_map-append (number_named frame rows) ls (z ∷ []) ∙ ap (λ ns. numbers_named frame rows ls ++ ns) (one_kept (number_named frame rows) z))

pub cuts_push : (frame : LogFrame) (ls zs : List LogLine) → filter_map (group_cut frame) (ls ++ zs) ≡ cuts_after frame (filter_map (group_cut frame) ls) zs
cuts_push frame ls [] = ap (filter_map (group_cut frame)) (append-nil ls)
cuts_push frame ls (z ∷ zs) =
    ap (filter_map (group_cut frame)) (sym (append_assoc ls (z ∷ []) zs)) ∙ cuts_push frame (ls ++ z ∷ []) zs
    ∙ ap (λ gs. cuts_after frame gs zs) (filter_map-append (group_cut frame) ls (z ∷ []) ∙ ap (λ gs. filter_map (group_cut frame) ls ++ gs) (one_kept (group_cut frame) z))

-- ---- each header, after one more line

abbrev parts : List LogLine → LogLine → Headers
parts ls z = record {
  die = list_any is_die ls || (is_die z || false);
  design = list_any is_design ls || (is_design z || false);
  ranges = filter_map range_of ls ++ filter_map range_of (z ∷ []);
  begun = list_any is_entry ls || (is_entry z || false);
}

parts_are : (ls : List LogLine) (z : LogLine) → headers_in (ls ++ z ∷ []) ≡ parts ls z
parts_are ls z = rw (list_any-append is_die ls (z ∷ []), list_any-append is_design ls (z ∷ []), filter_map-append range_of ls (z ∷ []), list_any-append is_entry ls (z ∷ [])) refl

-- where a line adds at most that fail and cut lines began
abbrev with_nothing : Headers → Bool → Headers
with_nothing h begins = record { die = h.die || false; design = h.design || false; ranges = h.ranges ++ []; begun = h.begun || begins }

abbrev with_begun : Headers → Bool → Headers
with_begun h begins = record { die = h.die; design = h.design; ranges = h.ranges; begun = begins }

begins : (h : Headers) → with_nothing h true ≡ with_begun h true
begins h = rw (or_false h.die, or_false h.design, append-nil h.ranges, or_true h.begun) refl

stays : (h : Headers) → with_nothing h false ≡ h
stays h = rw (or_false h.die, or_false h.design, append-nil h.ranges, or_false h.begun) refl

headers_one : (ls : List LogLine) (z : LogLine) → parts ls z ≡ with_line (headers_in ls) z
headers_one ls (die_line w) = rw (or_true (list_any is_die ls), or_false (list_any is_design ls), append-nil (filter_map range_of ls), or_false (list_any is_entry ls)) refl
headers_one ls (design_line w) = rw (or_false (list_any is_die ls), or_true (list_any is_design ls), append-nil (filter_map range_of ls), or_false (list_any is_entry ls)) refl
headers_one ls (tested_line a b) = rw (or_false (list_any is_die ls), or_false (list_any is_design ls), or_false (list_any is_entry ls)) refl
headers_one ls (out_line p n) = begins (headers_in ls)
headers_one ls (cell_line p c w) = begins (headers_in ls)
headers_one ls cut_out_line = begins (headers_in ls)
headers_one ls (cut_chain_line w) = begins (headers_in ls)
headers_one ls end_line = stays (headers_in ls)
headers_one ls truncated_line = stays (headers_in ls)
headers_one ls other_line = stays (headers_in ls)

pub headers_push : (ls zs : List LogLine) → headers_in (ls ++ zs) ≡ headers_after (headers_in ls) zs
headers_push ls [] = ap headers_in (append-nil ls)
headers_push ls (z ∷ zs) =
    ap headers_in (sym (append_assoc ls (z ∷ []) zs)) ∙ headers_push (ls ++ z ∷ []) zs ∙ ap (λ h. headers_after h zs) (parts_are ls z ∙ headers_one ls z)
