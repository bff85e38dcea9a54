-- A plain fail line that breaks no rule is one more line of a draft.
use Rattle.std.proofs.Common.{◌≡◌, ℕ, true, false, not, List, [], ◌∷◌, Option, Some, None, is_some, refl, sym, ap, ◌∙◌}
use Rattle.std.specs.Prelude.{if◌then◌else◌, IfSome}
use Rattle.scan_model.specs.Words.{words}
use Rattle.scan_model.specs.TextFaults.{lowest, or_else}
use Rattle.scan_model.specs.declared.rules.TheConstants.{REFUSED_LOG_BYTE}
use Rattle.scan_model.specs.declared.logs.LogVersion.{LogVersion}
use Rattle.scan_model.specs.LogText.{LogFrame, LogLine, Headers, later_rules, rules_of_words, rules_after, version_of}
use Rattle.fail_logs.specs.Frames.{headers_view}
use Rattle.fail_logs.specs.LogDrafts.{later_by}
use Rattle.fail_logs.specs.PlainLines.{IsPlainFail}
use Rattle.fail_logs.specs.GoodFails.{IsGoodAfter, IsGoodFail}
use Rattle.fail_logs.specs.declared.log_draft.LogDraft.{LogDraft}

module _ (frame : LogFrame) (rows : List (List ℕ)) (draft : LogDraft) (bytes : List ℕ) where
  abbrev ws : List (List ℕ)
  ws = words bytes

  abbrev h : Headers
  h = headers_view draft.headers

  good_titled : (title : Option LogVersion) (l : LogLine) (n : ℕ) → draft.title ≡ title → is_some title ≡ true → draft.closed ≡ false → IsPlainFail frame.form bytes l → IsGoodAfter frame rows h l n → IsGoodFail frame rows draft bytes n
  good_titled None l n is some closed plain good = absurd cc
  good_titled (Some version) l n is some closed plain good = record {
    line = l;
    unclosed = closed;
    rules =
        ap (λ c. lowest ((REFUSED_LOG_BYTE, c) ∷ rules_of_words frame draft.title draft.closed h ws)) plain.accepted
        ∙ ap (λ c. lowest (if not c then [] else rules_after frame draft.title draft.closed h ws)) plain.filled
        ∙ ap (λ t. lowest (rules_after frame t draft.closed h ws)) is
        ∙ ap (λ c. lowest (rules_after frame (Some version) c h ws)) closed
        ∙ ap (λ z. lowest (later_rules frame version h z)) (plain.read version)
        ∙ good.rules version;
    title =
        ap (λ c. if c then or_else draft.title (Some (version_of frame.form ws)) else draft.title) plain.filled
        ∙ ap (λ t. or_else t (Some (version_of frame.form ws))) is
        ∙ sym is;
    later =
        ap (λ c. if c then later_by frame.form draft.title ws else []) plain.filled
        ∙ ap (λ t. later_by frame.form t ws) is
        ∙ ap (λ z. z ∷ []) (plain.read version);
    good = good;
  }

  pub good_lines : (l : LogLine) (r : Option ℕ) → is_some draft.title ≡ true → draft.closed ≡ false → IsPlainFail frame.form bytes l → IfSome r (IsGoodAfter frame rows h l) → IfSome r (IsGoodFail frame rows draft bytes)
  good_lines l None titled closed plain good = tt
  good_lines l (Some n) titled closed plain good = good_titled draft.title l n refl titled closed plain good
