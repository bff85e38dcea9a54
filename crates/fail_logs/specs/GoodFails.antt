-- Fail lines that break no rule.
use Rattle.std.specs.Prelude.{ℕ, ◌≡◌, false, List, [], ◌∷◌, Some, None}
use Rattle.scan_model.specs.Words.{words}
use Rattle.scan_model.specs.TextFaults.{lowest}
use Rattle.scan_model.specs.declared.logs.LogVersion.{LogVersion}
use Rattle.scan_model.specs.LogText.{LogFrame, LogLine, Headers, out_line, cell_line, is_nowhere, is_out_of_shift, later_rules, log_rules}
use Rattle.fail_logs.specs.BitNumbers.{point_named, number_named}
use Rattle.fail_logs.specs.Frames.{headers_view}
use Rattle.fail_logs.specs.LogDrafts.{title_after, later_of}
use Rattle.fail_logs.specs.declared.log_draft.LogDraft.{LogDraft}

abbrev pub IsFail : LogLine → Type 0
IsFail (out_line p n) = Unit {0}
IsFail (cell_line p c w) = Unit {0}
IsFail l = ⊥

-- the line names this point, which can fail in its pattern
pub record IsSoundAt (frame : LogFrame) (rows : List (List ℕ)) (l : LogLine) (named : ℕ) : Type 0 where
  pub somewhere : is_nowhere frame l ≡ false
  pub captured : is_out_of_shift frame l ≡ false
  pub point : point_named frame rows l ≡ named

-- after these headers the fail line breaks no rule, and names the bit of this number
pub record IsGoodAfter (frame : LogFrame) (rows : List (List ℕ)) (headers : Headers) (l : LogLine) (n : ℕ) : Type 0 where
  pub fail : IsFail l
  pub rules : (version : LogVersion) → lowest (later_rules frame version headers l) ≡ None
  pub number : number_named frame rows l ≡ Some n

-- the bytes are a fail line that breaks no rule after the draft, and names the bit of this number
pub record IsGoodFail (frame : LogFrame) (rows : List (List ℕ)) (draft : LogDraft) (bytes : List ℕ) (n : ℕ) : Type 0 where
  pub line : LogLine
  pub unclosed : draft.closed ≡ false
  pub rules : lowest (log_rules frame draft.title draft.closed (headers_view draft.headers) bytes) ≡ None
  pub title : title_after frame.form draft.title (words bytes) ≡ draft.title
  pub later : later_of frame.form draft.title (words bytes) ≡ line ∷ []
  pub good : IsGoodAfter frame rows (headers_view draft.headers) line n
