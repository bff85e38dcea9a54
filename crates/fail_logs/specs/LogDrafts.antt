-- The draft of a log after one more line, by its words.
use Rattle.std.specs.Prelude.{ℕ, ◌≡◌, ◌||◌, if◌then◌else◌, Bool, List, [], ◌∷◌, ◌++◌, Option, Some, None, filter_map, option_to_list}
use Rattle.std.specs.List.{list_any}
use Rattle.scan_model.specs.Words.{has_words}
use Rattle.scan_model.specs.LogText as model
use Rattle.scan_model.specs.TextFaults.{or_else}
use Rattle.scan_model.specs.declared.logs.LogForm.{LogForm}
use Rattle.scan_model.specs.declared.logs.LogVersion.{LogVersion}
use Rattle.scan_model.specs.declared.logs.CutGroup.{CutGroup}
use Rattle.scan_model.specs.LogText.{LogFrame, log_line, version_of, is_end, is_truncated, group_cut, title_of, is_closed, headers_in, later_lines}
use Rattle.fail_logs.specs.Frames.{headers_view}
use Rattle.fail_logs.specs.BitNumbers.{number_named, numbers_named}
use Rattle.fail_logs.specs.HeaderLines.{with_line}
use Rattle.fail_logs.specs.declared.log_draft.LogDraft.{LogDraft}

-- the version after these words
abbrev pub title_after : LogForm → Option LogVersion → List (List ℕ) → Option LogVersion
title_after form title ws = if has_words ws then or_else title (Some (version_of form ws)) else title

-- the later line that these words are, by the version that a title named
abbrev pub later_by : LogForm → Option LogVersion → List (List ℕ) → List model.LogLine
later_by form None ws = []
later_by form (Some version) ws = log_line form version ws ∷ []

abbrev pub later_of : LogForm → Option LogVersion → List (List ℕ) → List model.LogLine
later_of form title ws = if has_words ws then later_by form title ws else []

abbrev pub headers_after : model.Headers → List model.LogLine → model.Headers
headers_after h [] = h
headers_after h (l ∷ ls) = headers_after (with_line h l) ls

abbrev pub closed_after : Bool → List model.LogLine → Bool
closed_after c [] = c
closed_after c (l ∷ ls) = closed_after (c || is_end l) ls

abbrev pub truncated_after : Bool → List model.LogLine → Bool
truncated_after c [] = c
truncated_after c (l ∷ ls) = truncated_after (c || is_truncated l) ls

abbrev pub fails_after : LogFrame → List (List ℕ) → List ℕ → List model.LogLine → List ℕ
fails_after frame rows ns [] = ns
fails_after frame rows ns (l ∷ ls) = fails_after frame rows (ns ++ option_to_list (number_named frame rows l)) ls

abbrev pub cuts_after : LogFrame → List CutGroup → List model.LogLine → List CutGroup
cuts_after frame gs [] = gs
cuts_after frame gs (l ∷ ls) = cuts_after frame (gs ++ option_to_list (group_cut frame l)) ls

-- the draft after a line of these words
pub record Takes (frame : LogFrame) (rows : List (List ℕ)) (old new : LogDraft) (ws : List (List ℕ)) : Type 0 where
  pub title : new.title ≡ title_after frame.form old.title ws
  pub closed : new.closed ≡ closed_after old.closed (later_of frame.form old.title ws)
  pub truncated : new.truncated ≡ truncated_after old.truncated (later_of frame.form old.title ws)
  pub headers : headers_view new.headers ≡ headers_after (headers_view old.headers) (later_of frame.form old.title ws)
  pub fails : new.fails.items ≡ fails_after frame rows old.fails.items (later_of frame.form old.title ws)
  pub cuts : new.cuts.items ≡ cuts_after frame old.cuts.items (later_of frame.form old.title ws)

-- the draft after this later line
pub record Adds (frame : LogFrame) (rows : List (List ℕ)) (old new : LogDraft) (l : model.LogLine) : Type 0 where
  pub title : new.title ≡ old.title
  pub closed : new.closed ≡ is_end l
  pub truncated : new.truncated ≡ (old.truncated || is_truncated l)
  pub headers : headers_view new.headers ≡ with_line (headers_view old.headers) l
  pub fails : new.fails.items ≡ old.fails.items ++ option_to_list (number_named frame rows l)
  pub cuts : new.cuts.items ≡ old.cuts.items ++ option_to_list (group_cut frame l)

-- the draft after these lines
pub record IsAfter (frame : LogFrame) (rows : List (List ℕ)) (draft : LogDraft) (before : List (List ℕ)) : Type 0 where
  pub title : draft.title ≡ title_of frame.form before
  pub closed : draft.closed ≡ is_closed (later_lines frame.form before)
  pub truncated : draft.truncated ≡ list_any is_truncated (later_lines frame.form before)
  pub headers : headers_view draft.headers ≡ headers_in (later_lines frame.form before)
  pub fails : draft.fails.items ≡ numbers_named frame rows (later_lines frame.form before)
  pub cuts : draft.cuts.items ≡ filter_map (group_cut frame) (later_lines frame.form before)
