use Rattle.std.proofs.lemmas.Result.{IfOk-weaker}
use Rattle.log_join.proofs.Fitting.{fits_expected}
use Rattle.log_rows.specs.PointRows.{ArePointRows}
use Rattle.log_rows.specs.PlaceRows.{ArePlaceRows}
use Rattle.log_rows.proofs.SideRows.{point_rows}
use Rattle.log_rows.proofs.point_rows.rows_of_points.Goals as goal

pub rows_of_places-requires-clause-expected : goal.rows_of_places-requires-clause-expected
rows_of_places-requires-clause-expected c = fits_expected c.args.parts.now c.args.expected.now c.args.joined.now c.requires.expected c.requires.joined

pub returns-clause-rows : goal.returns-clause-rows
returns-clause-rows c = λ logs stands.
    let t = c.args.parts.now in
    let j = c.args.joined.now in
    let e = c.args.expected.now in
    let b = c.args.block in
    IfOk-weaker c.rows_of_places.result (ArePlaceRows logs e j.patterns j.points b) (ArePointRows t logs b)
    (λ rows are. point_rows t logs e j.patterns j.points b rows c.requires.expected c.requires.joined.0 c.requires.joined.1 are)
    (c.rows_of_places.ensures.rows logs stands)
