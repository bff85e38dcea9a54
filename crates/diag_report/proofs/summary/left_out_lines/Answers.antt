use Rattle.diag_report.specs.Summary.{left_out_line}
use Rattle.diag_report.proofs.SummarySteps.{mapped_more}
use Rattle.diag_report.proofs.summary.left_out_lines.Goals as goal

pub loop-i-preserved : goal.loop-i-preserved
loop-i-preserved c =
    mapped_more (left_out_line c.args.parts.now) c.args.pairs.now c.loop-i.i _ c.args.draft.now c.loop-i.draft c.left_out_line.new.draft c.loop-i-test.true c.loop-i.invariant c.in_ok-left_out_line.ensures
