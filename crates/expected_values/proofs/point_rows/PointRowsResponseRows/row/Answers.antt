use Rattle.std.proofs.Common.{◌≡◌, ◌∙◌, ℕ, ◌*◌, ◌/◌, ◌+◌, ◌<◌, [], List, length, get_or, None, sym, ap, subst, arith, w64, Fits}
use Rattle.std.proofs.lemmas.List.{get_or_default, get_or-map}
use Rattle.scan_model.specs.declared.values.Tri.{Tri}
use Rattle.scan_model.specs.declared.values.Tri.TheVariants.{Unknown}
use Rattle.scan_model.specs.declared.parts.Point.{Point}
use Rattle.scan_model.specs.declared.parts.Point.TheVariants.{Output}
use Rattle.scan_model.specs.ScanTest.{points_of, point_at, IsPoint}
use Rattle.scan_model.specs.ChainShift.{value_at}
use Rattle.scan_model.specs.Response.{observed}
use Rattle.scan_model.proofs.ExpectedRows.{length-expected_rows, expected_row}
use Rattle.scan_model.proofs.Points.{points_are_points}
use Rattle.lane_rows.specs.declared.block.Block.{Block}
use Rattle.lane_rows.specs.GoodRows.{pattern_of, AreBlockRows, no_block}
use Rattle.expected_values.proofs.point_rows.PointRowsResponseRows.row.Goals as goal

pub bounds-blocks-block : goal.bounds-blocks-block
bounds-blocks-block c =
    let t = c.args.self.now.parts.now in
    omega (arith, ap length c.blocks-2.ensures, c.requires.ready.count, c.requires.block, length-expected_rows t)

pub offset_bounds-blocks-block : goal.offset_bounds-blocks-block
offset_bounds-blocks-block c =
    let inside = bounds-blocks-block c in
    omega (arith, inside, c.blocks-2.type_inv.1)

pub point_in_block-requires-clause-values : goal.point_in_block-requires-clause-values
point_in_block-requires-clause-values c =
    let t = c.args.self.now.parts.now in
    let b = c.args.block in
    let blocks = c.args.self.now.rows.now in
    let block = c.index-blocks-block.result in
    let in_blocks : b < length blocks = omega (arith, c.requires.ready.count, c.requires.block, length-expected_rows t) in
    let read : block ≡ get_or blocks b no_block = rw c.blocks-2.ensures at c.index-blocks-block.is ∙ get_or_default blocks b block no_block in_blocks in
    ap (λ (x : Block). length x.values) read ∙ (c.requires.ready.each b in_blocks).len

pub point_in_block-requires-clause-point : goal.point_in_block-requires-clause-point
point_in_block-requires-clause-point c =
    let t = c.args.self.now.parts.now in
    let points = c.as_slice.ensures ∙ c.points.ensures.value in
    rw points (points_are_points t c.args.place (Output 0) c.requires.place)

pub returns : goal.returns
returns c = λ j lane_in there.
    let t = c.args.self.now.parts.now in
    let b = c.args.block in
    let w = pattern_of b j in
    let k = c.args.place in
    let blocks = c.args.self.now.rows.now in
    let block = c.index-blocks-block.result in
    let in_patterns : w < length t.patterns = omega (arith, there, length-expected_rows t) in
    let in_blocks : b < length blocks = omega (arith, c.requires.ready.count, c.requires.block, length-expected_rows t) in
    let read : block ≡ get_or blocks b no_block = rw c.blocks-2.ensures at c.index-blocks-block.is ∙ get_or_default blocks b block no_block in_blocks in
    let rows : AreBlockRows t b block = subst (λ (x : Block). AreBlockRows t b x) (sym read) (c.requires.ready.each b in_blocks) in
    let points = c.as_slice.ensures ∙ c.points.ensures.value in
    c.point_in_block.ensures b j rows lane_in in_patterns
    ∙ ap (λ (ps : List Point). observed t None w (get_or ps k (Output 0))) points
    ∙ sym (get_or-map (observed t None w) (points_of t) k (Output 0) Unknown c.requires.place)
    ∙ sym (ap (λ (row : List Tri). value_at row k) (expected_row t w [] in_patterns))
