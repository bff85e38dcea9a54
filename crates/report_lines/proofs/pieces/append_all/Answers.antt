use Rattle.std.proofs.Common.{◌≡◌, ◌*◌, ℕ, length, take, sym, subst, arith}
use Rattle.report_lines.specs.declared.draft.Draft.{Draft}
use Rattle.report_lines.specs.LineEnds.{HasLines, AddsLines, IsCut}
use Rattle.report_lines.specs.Pieces.{lines_from, piece_lines}
use Rattle.report_lines.proofs.PieceSteps.{piece_more, pieces_added}
use Rattle.report_lines.proofs.pieces.append_all.Goals as goal

pub append_draft-requires : goal.append_draft-requires
append_draft-requires c = subst IsCut (sym c.piece-item.is) (c.requires c.loop-piece.piece-index c.piece-item.result c.loop-piece-test.true)

pub loop-piece-preserved : goal.loop-piece-preserved
loop-piece-preserved c = λ form rows size are.
    let k = c.loop-piece.piece-index in
    let lines = piece_lines form rows size k in
    let has : HasLines lines c.piece-item.result.text c.piece-item.result.ends = subst (λ (d : Draft). HasLines lines d.text d.ends) (sym c.piece-item.is) (are.each k c.piece-item.result c.loop-piece-test.true) in
    piece_more form rows size k c.args.draft.now c.loop-piece.draft c.append_draft.new.draft (c.loop-piece.invariant form rows size are) (c.in_ok-append_draft.ensures lines has)

pub returns : goal.returns
returns c = λ form rows size are.
    let all : c.loop-piece.piece-index ≡ length c.args.pieces.now = omega (arith, c.loop-piece-test.false, c.loop-piece.auto.piece-index-end) in
    pieces_added form rows size c.args.pieces.now c.args.draft.now c.loop-piece.draft are
    (subst (λ (n : ℕ). AddsLines (lines_from form 1 (take (n * size) rows)) c.args.draft.now c.loop-piece.draft) all (c.loop-piece.invariant form rows size are))
