use Rattle.std.proofs.Common.{◌≡◌, List, subst}
use Rattle.std.specs.Prelude.{IfOk}
use Rattle.scan_model.specs.declared.logs.Scored.{Scored}
use Rattle.scan_model.specs.Universe.{universe}
use Rattle.scan_model.specs.ReportText.{report_form}
use Rattle.diag_report.specs.declared.tally.Tally.{Tally}
use Rattle.diag_report.specs.Layout.{layout}
use Rattle.diag_report.proofs.text.make_text.Goals as goal

pub returns : goal.returns
returns g c = λ classes is.
    let t = c.args.parts.now in
    let head = c.args.head.now in
    let Laid : Tally → List Scored → Type 0 = λ tally rows. IfOk c.written_in_pieces.result (λ r. r ≡ layout (report_form (universe t) t) head.design head.die head.logs tally rows) in
    let of_rows : Laid c.args.tally.now c.args.ranked.now = subst (Laid c.args.tally.now) c.as_slice.ensures c.written_in_pieces.ensures in
    subst (λ (tally : Tally). Laid tally c.args.ranked.now) is of_rows
