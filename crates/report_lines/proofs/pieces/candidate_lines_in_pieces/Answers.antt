use Rattle.std.proofs.Common.{sym, subst}
use Rattle.std.specs.Prelude.{All}
use Rattle.report_lines.specs.LineEnds.{IsCut}
use Rattle.report_lines.proofs.PieceSteps.{are_cut}
use Rattle.report_lines.proofs.pieces.candidate_lines_in_pieces.Goals as goal

pub append_all-requires : goal.append_all-requires
append_all-requires g c =
    subst (All IsCut) (sym c.deref.ensures.value) (are_cut (g.N.ReportNames.form c.args.names.now) c.args.rows.now c.piece_size-size.result c.in_ok-drafts.drafts.items c.in_ok-drafts.ensures)
