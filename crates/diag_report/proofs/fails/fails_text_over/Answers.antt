use Rattle.std.proofs.Common.{◌≡◌, get_or, sym, ap, ◌∙◌}
use Rattle.std.proofs.lemmas.Option.{get_or_from_slice_get}
use Rattle.scan_model.specs.declared.fault.Fault.{Fault}
use Rattle.scan_model.specs.Universe.{universe}
use Rattle.scan_model.specs.LogText.{log_frame, log_reading}
use Rattle.scan_model.specs.ReportText.{no_fault}
use Rattle.fault_universe.proofs.Blocks.{Contains-at}
use Rattle.diag_report.specs.PredictedLog.{predicted_lines, predicted_log, fault_of}
use Rattle.diag_report.proofs.SummarySteps.{text_written}
use Rattle.diag_report.proofs.RoundTrip.{reads_back}
use Rattle.diag_report.proofs.OwnLog.{explains_own_log}
use Rattle.diag_report.proofs.fails.fails_text_over.Goals as goal

pub log_lines-requires-clause-fault : goal.log_lines-requires-clause-fault
log_lines-requires-clause-fault c = Contains-at (universe c.args.parts.now) c.args.place c.in-Some.fault (sym c.in-Some.ensures.fault)

pub returns-clause-text : goal.returns-clause-text
returns-clause-text c =
    let t = c.args.parts.now in
    let design = c.args.design.now in
    let die = c.args.die.now in
    let f = c.in-Some.fault in
    let start = c.new_draft-draft.result in
    let is_fault : get_or (universe t) c.args.place no_fault ≡ f = get_or_from_slice_get (universe t) c.args.place f no_fault (sym c.in-Some.ensures.fault) in
    text_written (predicted_lines t design die f) start c.log_lines.new.draft c.new_draft-draft.ensures.text c.new_draft-draft.ensures.ends c.in_ok-log_lines.ensures.lines
    ∙ ap (λ (x : Fault). predicted_log t design die x) (sym is_fault)

pub returns-clause-reading : goal.returns-clause-reading
returns-clause-reading c = λ names.
    let t = c.args.parts.now in
    let f = fault_of t c.args.place in
    ap (log_reading (log_frame t c.args.design.now c.args.die.now)) (returns-clause-text c) ∙ reads_back t c.log_lines.ensures.fits c.args.design.now c.args.die.now f c.requires.design c.requires.die names

pub returns-clause-counts : goal.returns-clause-counts
returns-clause-counts c = explains_own_log c.args.parts.now (fault_of c.args.parts.now c.args.place)

pub returns-in_err-log_lines-clause-counts : goal.returns-in_err-log_lines-clause-counts
returns-in_err-log_lines-clause-counts c = explains_own_log c.args.parts.now (fault_of c.args.parts.now c.args.place)
