use Rattle.diag_report.specs.Layout.{layout}
use Rattle.diag_report.proofs.OpeningSteps.{all_lines}
use Rattle.diag_report.proofs.text.written.Goals as goal

pub finished-requires : goal.finished-requires
finished-requires g c =
    let form = g.N.ReportNames.form c.args.names.now in
    let head = c.args.head.now in
    let tally = c.args.tally.now in
    let rows = c.args.rows.now in (
      layout form head.design head.die head.logs tally rows,
      all_lines form head.design head.die head.logs tally rows c.in_ok-draft.draft c.candidate_lines.new.draft c.in_ok-draft.ensures c.in_ok-candidate_lines.ensures,
    )

pub returns : goal.returns
returns g c =
    let form = g.N.ReportNames.form c.args.names.now in
    let head = c.args.head.now in
    let tally = c.args.tally.now in
    let rows = c.args.rows.now in
    c.finished.ensures (layout form head.design head.die head.logs tally rows)
    (all_lines form head.design head.die head.logs tally rows c.in_ok-draft.draft c.candidate_lines.new.draft c.in_ok-draft.ensures c.in_ok-candidate_lines.ensures)
