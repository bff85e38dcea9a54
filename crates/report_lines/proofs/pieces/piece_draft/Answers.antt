use Rattle.std.proofs.Common.{rules, ◌≡◌, ◌+◌, ◌*◌, ◌<◌, ◌^◌, List, [], length, min, subst, arith}
use Rattle.scan_model.specs.declared.logs.Scored.{Scored}
use Rattle.report_lines.specs.LineEnds.{HasLines}
use Rattle.report_lines.specs.Pieces.{lines_from}
use Rattle.report_lines.proofs.PieceSteps.{piece_cut}
use Rattle.report_lines.proofs.pieces.piece_draft.Goals as goal

pub returns : goal.returns
returns g c =
    let rows = c.args.rows.now in
    let start = c.args.piece * c.args.size in
    let new = c.candidate_lines_from.new.draft in
    let few : length rows < 2 ^ 64 = search rules in
    let end : c.min-end.result ≡ min (start + c.args.size) (length rows) = omega (arith, few, c.min-end.ensures, c.saturating_add.ensures) in
    let has = c.in_ok-candidate_lines_from.ensures.added [] (record { text_is = c.in_ok-draft.ensures.text; ends_are = c.in_ok-draft.ensures.ends }) in
    subst (λ (part : List Scored). HasLines (lines_from (g.N.ReportNames.form c.args.names.now) (start + 1) part) new.text new.ends) (piece_cut rows start c.args.size c.min-end.result end) has
