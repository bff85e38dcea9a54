use Rattle.std.proofs.Common.{◌≡◌, Err, rules}
use Rattle.scan_model.specs.Lines.{text_lines}
use Rattle.scan_model.specs.LogText.{later_lines, log_fault}
use Rattle.fail_logs.specs.Frames.{frame_view, places_view}
use Rattle.fail_logs.specs.LineFacts.{facts_of, draft_facts}
use Rattle.fail_logs.proofs.FirstFaults.{log_first, log_none}
use Rattle.fail_logs.proofs.Whole.{was_read, numbers_fit, groups_fit, reading_is, reading_fits}
use Rattle.fail_logs.proofs.reading.read_framed.Goals as goal

pub bits_in_order-requires-clause-numbers : goal.bits_in_order-requires-clause-numbers
bits_in_order-requires-clause-numbers c = numbers_fit (frame_view c.args.frame.now) (places_view c.args.frame.now) c.requires c.args.bytes.now (draft_facts c.in_ok-draft.draft) c.in_ok-draft.ensures

pub cut_points-requires-clause-groups : goal.cut_points-requires-clause-groups
cut_points-requires-clause-groups c = rw (c.deref.ensures.value, c.len.ensures) (groups_fit (frame_view c.args.frame.now) (places_view c.args.frame.now) c.requires c.args.bytes.now (draft_facts c.in_ok-draft.draft) c.in_ok-draft.ensures)

pub returns-clause-reading : goal.returns-clause-reading
returns-clause-reading c = rw (c.in_ok-cuts.ensures, c.into_rows.ensures, c.deref.ensures.value) (reading_is (frame_view c.args.frame.now) (places_view c.args.frame.now) c.requires c.args.bytes.now (draft_facts c.in_ok-draft.draft) c.in_ok-draft.ensures c.in_ok-fails.fails c.in_ok-fails.ensures)

pub returns-clause-none : goal.returns-clause-none
returns-clause-none c =
    let frame = frame_view c.args.frame.now in
    let lines = facts_of frame (places_view c.args.frame.now) (later_lines frame.form (text_lines c.args.bytes.now)) in
    log_none frame c.args.bytes.now (was_read (log_fault frame c.args.bytes.now) lines (draft_facts c.in_ok-draft.draft) c.in_ok-draft.ensures).0

pub returns-in_err-draft-clause-first : goal.returns-in_err-draft-clause-first
returns-in_err-draft-clause-first c =
    let frame = frame_view c.args.frame.now in
    let lines = facts_of frame (places_view c.args.frame.now) (later_lines frame.form (text_lines c.args.bytes.now)) in
    let is : c.from_residual.result ≡ Err c.in_err-draft.field-0.0 = search rules in
    rw is (log_first frame c.args.bytes.now lines c.in_err-draft.field-0.0 c.in_err-draft.ensures)

pub returns-clause-fits : goal.returns-clause-fits
returns-clause-fits c = rw (c.in_ok-cuts.ensures, c.into_rows.ensures, c.deref.ensures.value) (reading_fits (frame_view c.args.frame.now) (places_view c.args.frame.now) c.requires c.args.bytes.now (draft_facts c.in_ok-draft.draft) c.in_ok-draft.ensures c.in_ok-fails.fails c.in_ok-fails.ensures)
