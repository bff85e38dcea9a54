use Rattle.scan_model.specs.ReportText.{named_candidate_line}
use Rattle.report_lines.proofs.LineSteps.{numbered_more}
use Rattle.report_lines.proofs.lines.candidate_lines_from.Goals as goal

pub loop-i-preserved : goal.loop-i-preserved
loop-i-preserved g c =
    let form = g.N.ReportNames.form c.args.names.now in
    numbered_more (named_candidate_line form) c.args.first c.args.rows.now c.loop-i.i _ c.args.draft.now c.loop-i.draft c.candidate_line.new.draft c.loop-i-test.true c.loop-i.invariant c.in_ok-candidate_line.ensures
