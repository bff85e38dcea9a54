use Rattle.std.proofs.Common.{◌≡◌, ℕ, ◌+◌, ◌<◌, ◌&&◌, not, length, get_or, ap, ◌∙◌, arith}
use Rattle.std.proofs.lemmas.List.{get_or_default}
use Rattle.lane_rows.specs.Lanes.{lane}
use Rattle.log_rows.specs.declared.point_row.PointRow.{PointRow}
use Rattle.log_rows.specs.PointRows.{no_point_row}
use Rattle.fault_effects.specs.Tables.{put_row}
use Rattle.match_counts.specs.Flips.{point_row_at}
use Rattle.pattern_fits.specs.LaneNumbers.{value, one}
use Rattle.slat_view.specs.Trials.{bad_in}
use Rattle.slat_view.proofs.PlaceSums.{one_most}
use Rattle.slat_view.proofs.Tables.{against_row, lanes_less, few_bad, down_there, bad_put}
use Rattle.slat_view.proofs.chain_observer.FitsChainObserver.change.Goals as goal

pub sub-requires : goal.sub-requires
sub-requires c = λ j lt.
    let rows = c.args.self.now.points.rows.now in
    let place = c.args.place in
    let within : place < length rows = omega (arith, c.requires.place, c.args.self.now.points.rows_len) in
    let row : get_or rows place c.index-self-place.result ≡ point_row_at rows place = get_or_default rows place c.index-self-place.result no_point_row within in
    let before : lane c.against-before.result j ≡ against_row (point_row_at rows place) c.args.old j = c.against-before.ensures j lt ∙ ap (λ (r : PointRow). against_row r c.args.old j) row in
    let after : lane c.against-after.result j ≡ against_row (point_row_at rows place) c.args.new j = c.against-after.ensures j lt ∙ ap (λ (r : PointRow). against_row r c.args.new j) row in
    let gone : one (lane c.and.result j) ≡ one (against_row (point_row_at rows place) c.args.old j && not (against_row (point_row_at rows place) c.args.new j)) =
    ap one (lanes_less (lane c.and.result j) (lane c.against-before.result j) (lane c.not.result j) (lane c.against-after.result j) _ _ (c.and.ensures j lt) (c.not.ensures j lt) before after) in
    omega (arith, gone, c.requires.old.1 j lt, down_there rows c.requires.old.0 place within c.args.old c.args.new j (c.requires.old.2 j lt))

pub add-requires : goal.add-requires
add-requires c = λ j lt.
    let rows = c.args.self.now.points.rows.now in
    omega (arith, c.sub.ensures j lt, one_most (lane c.and-2.result j), c.requires.old.1 j lt, few_bad rows c.requires.old.0 j, c.args.self.now.points.rows_len, c.points.ensures.few)

pub returns : goal.returns
returns c = λ table are is_old j lt.
    let rows = c.args.self.now.points.rows.now in
    let place = c.args.place in
    let within : place < length rows = omega (arith, c.requires.place, c.args.self.now.points.rows_len) in
    let row : get_or rows place c.index-self-place.result ≡ point_row_at rows place = get_or_default rows place c.index-self-place.result no_point_row within in
    let before : lane c.against-before.result j ≡ against_row (point_row_at rows place) c.args.old j = c.against-before.ensures j lt ∙ ap (λ (r : PointRow). against_row r c.args.old j) row in
    let after : lane c.against-after.result j ≡ against_row (point_row_at rows place) c.args.new j = c.against-after.ensures j lt ∙ ap (λ (r : PointRow). against_row r c.args.new j) row in
    let gone : one (lane c.and.result j) ≡ one (against_row (point_row_at rows place) c.args.old j && not (against_row (point_row_at rows place) c.args.new j)) =
    ap one (lanes_less (lane c.and.result j) (lane c.against-before.result j) (lane c.not.result j) (lane c.against-after.result j) _ _ (c.and.ensures j lt) (c.not.ensures j lt) before after) in
    let came : one (lane c.and-2.result j) ≡ one (against_row (point_row_at rows place) c.args.new j && not (against_row (point_row_at rows place) c.args.old j)) =
    ap one (lanes_less (lane c.and-2.result j) (lane c.against-after.result j) (lane c.not-2.result j) (lane c.against-before.result j) _ _ (c.and-2.ensures j lt) (c.not-2.ensures j lt) after before) in
    let down : value c.sub.new.self j + one (against_row (point_row_at rows place) c.args.old j && not (against_row (point_row_at rows place) c.args.new j)) ≡ bad_in rows table j = omega (arith, c.sub.ensures j lt, gone, are j lt) in
    let up : value c.add.new.self j ≡ value c.sub.new.self j + one (against_row (point_row_at rows place) c.args.new j && not (against_row (point_row_at rows place) c.args.old j)) = omega (arith, c.add.ensures j lt, came) in
    bad_put rows table place within c.args.old c.args.new j (is_old j lt) (value c.sub.new.self j) (value c.add.new.self j) down up
