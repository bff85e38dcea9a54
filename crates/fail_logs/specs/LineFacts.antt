-- What the later lines of a log say: the tested ranges, whether a line is `truncated`, the numbers of the bits that fail lines
-- name, and the groups that cut lines name.
use Rattle.std.specs.Prelude.{ℕ, Bool, List, filter_map}
use Rattle.std.specs.List.{list_any}
use Rattle.scan_model.specs.declared.logs.Range.{Range}
use Rattle.scan_model.specs.declared.logs.CutGroup.{CutGroup}
use Rattle.scan_model.specs.LogText.{LogFrame, LogLine, range_of, is_truncated, group_cut}
use Rattle.fail_logs.specs.BitNumbers.{numbers_named}
use Rattle.fail_logs.specs.declared.log_draft.LogDraft.{LogDraft}

pub record LineFacts : Type 0 where
  pub ranges : List Range
  pub truncated : Bool
  pub fails : List ℕ
  pub cuts : List CutGroup

abbrev pub facts_of : LogFrame → List (List ℕ) → List LogLine → LineFacts
facts_of frame rows ls = record {
  ranges = filter_map range_of ls;
  truncated = list_any is_truncated ls;
  fails = numbers_named frame rows ls;
  cuts = filter_map (group_cut frame) ls;
}

abbrev pub draft_facts : LogDraft → LineFacts
draft_facts draft = record { ranges = draft.headers.tested; truncated = draft.truncated; fails = draft.fails.items; cuts = draft.cuts.items }
