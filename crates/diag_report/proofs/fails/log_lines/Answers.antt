use Rattle.std.proofs.Common.{◌∷◌, [], ◌++◌}
use Rattle.std.proofs.lemmas.Result.{on_ok_weaker}
use Rattle.scan_model.specs.Coverage.{bits_of}
use Rattle.report_lines.proofs.LineSteps.{both_added}
use Rattle.diag_report.specs.PredictedLog.{head_lines, fail_lines, end_line}
use Rattle.diag_report.proofs.fails.log_lines.Goals as goal

pub returns-clause-lines : goal.returns-clause-lines
returns-clause-lines c =
    let t = c.args.parts.now in
    let f = c.args.fault.now in
    let start = c.args.draft.now in
    let d1 = c.head.new.draft in
    let d2 = c.fail_lines.new.draft in
    let d3 = c.last_line.new.draft in
    let fails = fail_lines t f (bits_of t) in
    on_ok_weaker c.last_line.result
    (λ last. both_added (head_lines t c.args.design.now c.args.die.now) (fails ++ end_line ∷ []) start d1 d3 c.in_ok-head.ensures.lines (both_added fails (end_line ∷ []) d1 d2 d3 c.in_ok-fail_lines.ensures last))
    c.last_line.ensures
