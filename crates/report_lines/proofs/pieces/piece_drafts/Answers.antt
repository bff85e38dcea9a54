use Rattle.std.proofs.Common.{◌*◌, ◌≤◌, ◌<◌, ◌+◌, ℕ, length, subst, arith}
use Rattle.std.proofs.lemmas.Grind.{div_ceil_times}
use Rattle.std.proofs.lemmas.Result.{IfOk-weaker}
use Rattle.report_lines.proofs.PieceSteps.{begins_inside, pieces_are}
use Rattle.report_lines.proofs.pieces.piece_drafts.Goals as goal

pub made_in_crew-requires-clause-ready : goal.made_in_crew-requires-clause-ready
made_in_crew-requires-clause-ready g c κs within =
    let rows = c.args.rows.now in
    let size = c.args.size in
    let count = c.div_ceil.result in
    let few : count * size < length rows + size = rw c.div_ceil.ensures (div_ceil_times (length rows) size c.requires.size).1 in
    λ i lt. (c.requires.places, begins_inside (length rows) size count i few lt)

pub returns : goal.returns
returns g c =
    let form = g.N.ReportNames.form c.args.names.now in
    let rows = c.args.rows.now in
    let size = c.args.size in
    let count = c.div_ceil.result in
    let all : length rows ≤ count * size = rw c.div_ceil.ensures (div_ceil_times (length rows) size c.requires.size).0 in
    IfOk-weaker c.made_in_crew.result _ _ (λ drafts made. pieces_are form rows size count drafts.items all made) c.made_in_crew.ensures
