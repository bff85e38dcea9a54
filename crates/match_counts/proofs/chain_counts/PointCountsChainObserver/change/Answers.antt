use Rattle.std.proofs.Common.{◌≡◌, ◌<◌, ◌&&◌, List, length, get_or, sym, ap, subst, ◌∙◌, arith}
use Rattle.std.proofs.lemmas.List.{get_or_default}
use Rattle.lane_rows.specs.Lanes.{lane, count_lanes}
use Rattle.log_rows.specs.declared.point_row.PointRow.{PointRow}
use Rattle.log_rows.specs.PointRows.{no_point_row}
use Rattle.fault_effects.specs.Tables.{put_row}
use Rattle.match_counts.specs.declared.block_count.BlockCount.{BlockCount}
use Rattle.match_counts.specs.Flips.{row_on, point_row_at}
use Rattle.match_counts.specs.PlaceCounts.{ArePlaceCounts}
use Rattle.match_counts.proofs.PlaceSums.{counts_put}
use Rattle.match_counts.proofs.chain_counts.PointCountsChainObserver.change.Goals as goal

pub put-requires-clause-within : goal.put-requires-clause-within
put-requires-clause-within c = omega (arith, c.requires.place, c.requires.old.1.len, c.args.self.now.rows_len)

pub returns : goal.returns
returns c = λ t are is.
    let rows = c.args.self.now.rows.now in
    let counts = c.args.sum.now in
    let place = c.args.place in
    let within : place < length rows = omega (arith, c.requires.place, c.args.self.now.rows_len) in
    let row : get_or rows place c.index-self-place.result ≡ point_row_at rows place = get_or_default rows place c.index-self-place.result no_point_row within in
    let Are : List BlockCount → Type 0 = λ xs. ArePlaceCounts rows xs (put_row t place c.args.new) in
    subst Are (sym c.put.ensures) (counts_put rows counts t place c.args.new c.count_row-count.result within are
    (λ side. c.count_row-count.ensures.count side ∙ ap (λ (r : PointRow). count_lanes (λ j. lane c.args.new j && lane (row_on side r) j)) row))
