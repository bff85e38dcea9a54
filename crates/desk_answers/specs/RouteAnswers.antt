-- What a request is answered at its route, after a list of deeds, where the deeds may number so many.
use Rattle.std.specs.Prelude.{ℕ, ◌==◌, ◌&&◌, ◌||◌, nat_lt, if◌then◌else◌, List, ◌++◌, length, codes, Option, Some, None, Result, Ok, Err}
use Rattle.sha2.specs.Sha256.{sha256}
use Rattle.scan_model.specs.declared.logs.LogFacts.{LogFacts}
use Rattle.scan_model.specs.ScanTest.{ScanTest}
use Rattle.scan_model.specs.Universe.{universe}
use Rattle.scan_model.specs.LogText.{log_frame, log_reading}
use Rattle.scan_model.specs.DieReport.{logs_of_texts, die_report}
use Rattle.scan_model.specs.ReportText.{report_lines, page_of}
use Rattle.scan_model.specs.declared.rules.TheConstants.{NOT_A_SIGN}
use Rattle.desk_outside.specs.declared.deed.Deed.{Deed}
use Rattle.desk_outside.specs.declared.deed.DeedKind.TheVariants as deed
use Rattle.diag_report.specs.Summary.{summary_text}
use Rattle.diag_report.specs.PredictedLog.{predicted_log, fault_of}
use Rattle.diagnosis.specs.declared.section.Section.{Section}
use Rattle.diagnosis.specs.declared.section.Section.TheVariants as section
use Rattle.diagnosis.specs.Bundle.{bundle_reading}
use Rattle.slat_view.specs.Slat.{is_explained, slat_rows}
use Rattle.slat_view.specs.SlatText.{slat_text, pattern_text}
use Rattle.book.specs.Deeds.{test_of_text}
use Rattle.book.specs.Answers.{design_answer, log_answer, sign_answer, design_look, die_look, sign_look}
use Rattle.desk_replies.specs.declared.status.Status.TheVariants as status
use Rattle.desk_heads.specs.declared.head.method.Method.{Method}
use Rattle.desk_heads.specs.declared.head.method.Method.TheVariants as method
use Rattle.desk_replies.specs.declared.bodies.TextKind.TheVariants as kind
use Rattle.desk_replies.specs.declared.bodies.Refusal.TheVariants as refusal
use Rattle.desk_answers.specs.declared.routes.resource.Resource.{Resource}
use Rattle.desk_answers.specs.declared.routes.resource.Resource.TheVariants as resource
use Rattle.die_entries.specs.declared.sign.Sign.{Sign}
use Rattle.desk_replies.specs.Methods.{allows}
use Rattle.desk_answers.specs.Resources.{methods_of}
use Rattle.desk_replies.specs.Bodies.{design_body, log_body, sign_off_line, sign_off_body, design_head, unknown_fault_body, unknown_line_body, unknown_pattern_body}
use Rattle.desk_replies.specs.Answers.{Answer, plain, refused, other_method, unprocessable, put, look}

-- ---- designs that are there

-- goes on with the scan test of a design's text, which reads without a fault
abbrev pub over : Option ScanTest → (ScanTest → Answer) → Answer
over (Some t) next = next t
over None next = refused refusal.UnknownDesign

-- goes on with a design by its name
abbrev pub with_design : List Deed → List ℕ → (List ℕ → ScanTest → Answer) → Answer
with_design deeds name next = look (design_look deeds name) (λ text. over (test_of_text (Some text)) (next text))

-- the page of these lines that begins with a line
abbrev pub page_of_lines : List (List ℕ) → ℕ → Answer
page_of_lines lines from =
    if (from == 0) || nat_lt (length lines) from then plain status.NotFound (unknown_line_body (length lines))
    else plain status.Ok (page_of lines from)

-- the faults that fit an explained pattern
abbrev pub pattern_page : ScanTest → List LogFacts → ℕ → Answer
pattern_page t logs w =
    if nat_lt w (length t.patterns) && is_explained t logs w then plain status.Ok (pattern_text t logs w)
    else plain status.NotFound (unknown_pattern_body (length (slat_rows t logs)))

-- ---- what is got

module _ (deeds : List Deed) where
  -- the digest of a design's bundle, and its summary
  abbrev pub design_get : List ℕ → Answer
  design_get name = with_design deeds name (λ text t. plain status.Ok (design_head name (sha256 text) ++ summary_text t))

  -- the log of a die that a fault predicts
  abbrev pub fails_get : List ℕ → List ℕ → ℕ → Answer
  fails_get die name fault =
      with_design deeds name (λ text t.
      if nat_lt fault (length (universe t)) then plain status.Ok (predicted_log t name die (fault_of t fault))
      else plain status.NotFound (unknown_fault_body (length (universe t))))

  -- goes on with a die at a revision, or at its last
  abbrev pub with_die : List ℕ → List ℕ → Option ℕ → (ScanTest → List (List ℕ) → Answer) → Answer
  with_die design die revision next =
      look (die_look deeds design die revision) (λ texts. with_design deeds design (λ bundle t. next t texts))

  -- a die's report
  abbrev pub report_get : List ℕ → List ℕ → Option ℕ → Answer
  report_get design die revision = with_die design die revision (λ t texts. plain status.Ok (die_report t design die texts))

  -- the page of such a report that begins with a line
  abbrev pub page_get : List ℕ → List ℕ → ℕ → ℕ → Answer
  page_get design die revision from =
      with_die design die (Some revision) (λ t texts. page_of_lines (report_lines t design die (logs_of_texts t design die texts)) from)

  -- how many faults fit each explained pattern of a die at a revision
  abbrev pub slat_get : List ℕ → List ℕ → ℕ → Answer
  slat_get design die revision = with_die design die (Some revision) (λ t texts. plain status.Ok (slat_text t design die (logs_of_texts t design die texts)))

  -- which faults fit one of them
  abbrev pub slat_pattern_get : List ℕ → List ℕ → ℕ → ℕ → Answer
  slat_pattern_get design die revision w = with_die design die (Some revision) (λ t texts. pattern_page t (logs_of_texts t design die texts) w)

  -- a sign-off by its number
  abbrev pub sign_get : List ℕ → List ℕ → ℕ → Answer
  sign_get design die number =
      look (sign_look deeds design die number) (λ sign. plain status.Ok (sign_off_body number sign.revision sign.signer sign.digest))

-- ---- what is put

module _ (limit : ℕ) (deeds : List Deed) where
  -- a bundle is put under a name, once it was read
  abbrev pub design_read : Result ScanTest (Section × (ℕ × ℕ)) → List ℕ → List ℕ → Answer
  design_read (Ok t) name text = put (λ n. design_body name (sha256 text)) (deed.Design name text) (design_answer limit deeds name text)
  design_read (Err (section, fault)) name text = unprocessable (kind.Section section) fault

  abbrev pub design_put : List ℕ → List ℕ → Answer
  design_put name text = design_read (bundle_reading text) name text

  -- a log is posted, once it was read
  abbrev pub log_read : Result LogFacts (ℕ × ℕ) → List ℕ → List ℕ → List ℕ → Answer
  log_read (Ok facts) design die text = put log_body (deed.Log design die text) (log_answer limit deeds design die text)
  log_read (Err fault) design die text = unprocessable (kind.Section section.Log) fault

  -- its design is found first
  abbrev pub log_post : List ℕ → List ℕ → List ℕ → Answer
  log_post design die text = with_design deeds design (λ bundle t. log_read (log_reading (log_frame t design die) text) design die text)

  -- a report is signed: the body is read, then the die is found at the revision, then the digest is compared
  abbrev pub sign_post : List ℕ → List ℕ → Option Sign → Answer
  sign_post design die None = unprocessable kind.SignOff (1, NOT_A_SIGN)
  sign_post design die (Some sign) =
      with_die deeds design die (Some sign.revision) (λ t texts.
      put sign_off_line (deed.Sign design die sign.revision sign.signer sign.digest)
      (sign_answer limit deeds design die sign.revision (sha256 (die_report t design die texts)) sign.signer sign.digest))

-- ---- a request

-- the die of a predicted log
abbrev pub predicted : List ℕ
predicted = codes "predicted"

-- what is answered at a resource to one of its methods; a sign-off is given as its body reads
abbrev pub answer_at : ℕ → List Deed → Resource → Method → List ℕ → Option Sign → Answer
answer_at limit deeds (resource.Design design) method.Put body sign = design_put limit deeds design body
answer_at limit deeds (resource.Design design) _ body sign = design_get deeds design
answer_at limit deeds (resource.Fails design fault) _ body sign = fails_get deeds predicted design fault
answer_at limit deeds (resource.Logs design die) _ body sign = log_post limit deeds design die body
answer_at limit deeds (resource.LastReport design die) _ body sign = report_get deeds design die None
answer_at limit deeds (resource.Report design die revision) _ body sign = report_get deeds design die (Some revision)
answer_at limit deeds (resource.Page design die revision line) _ body sign = page_get deeds design die revision line
answer_at limit deeds (resource.Slat design die revision) _ body sign = slat_get deeds design die revision
answer_at limit deeds (resource.SlatPattern design die revision pattern) _ body sign = slat_pattern_get deeds design die revision pattern
answer_at limit deeds (resource.Signs design die) _ body sign = sign_post limit deeds design die sign
answer_at limit deeds (resource.Sign design die number) _ body sign = sign_get deeds design die number

abbrev pub routed : ℕ → List Deed → Option Resource → Method → List ℕ → Option Sign → Answer
routed limit deeds None m body sign = refused refusal.NoRoute
routed limit deeds (Some r) m body sign = if allows (methods_of r) m then answer_at limit deeds r m body sign else other_method (methods_of r)
