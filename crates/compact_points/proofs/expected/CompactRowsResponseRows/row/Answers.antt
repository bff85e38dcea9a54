use Rattle.std.proofs.Common.{◌≡◌, ◌∙◌, ◌<◌, [], List, length, get_or, None, sym, ap, subst, arith}
use Rattle.std.proofs.lemmas.List.{get_or_default, get_or-map}
use Rattle.scan_model.specs.declared.values.Tri.{Tri}
use Rattle.scan_model.specs.declared.values.Tri.TheVariants.{Unknown}
use Rattle.scan_model.specs.declared.parts.Point.{Point}
use Rattle.scan_model.specs.declared.parts.Point.TheVariants.{Output}
use Rattle.scan_model.specs.ChainShift.{value_at}
use Rattle.lane_rows.specs.declared.block.Block.{Block}
use Rattle.lane_rows.specs.GoodRows.{pattern_of, AreBlockRows, no_block}
use Rattle.compact_points.specs.Compaction.{compact_value}
use Rattle.compact_points.proofs.CompactRows.{length-compact_rows, compact_row}
use Rattle.compact_points.proofs.PointsThere.{point_is_there}
use Rattle.compact_points.proofs.expected.CompactRowsResponseRows.row.Goals as goal

pub bounds-blocks-block : goal.bounds-blocks-block
bounds-blocks-block c =
    let s = c.args.self.now in
    omega (arith, ap length c.blocks-2.ensures, c.requires.ready.1.count, c.requires.block, length-compact_rows s.parts.now s.compact.now)

pub offset_bounds-blocks-block : goal.offset_bounds-blocks-block
offset_bounds-blocks-block c =
    let inside = bounds-blocks-block c in
    omega (arith, inside, c.blocks-2.type_inv.1)

pub shown_in_block-requires-clause-values : goal.shown_in_block-requires-clause-values
shown_in_block-requires-clause-values c =
    let s = c.args.self.now in
    let b = c.args.block in
    let blocks = s.rows.now in
    let block = c.index-blocks-block.result in
    let in_blocks : b < length blocks = omega (arith, c.requires.ready.1.count, c.requires.block, length-compact_rows s.parts.now s.compact.now) in
    let read : block ≡ get_or blocks b no_block = rw c.blocks-2.ensures at c.index-blocks-block.is ∙ get_or_default blocks b block no_block in_blocks in
    ap (λ (x : Block). length x.values) read ∙ (c.requires.ready.1.each b in_blocks).len

pub shown_in_block-requires-clause-point : goal.shown_in_block-requires-clause-point
shown_in_block-requires-clause-point c =
    let s = c.args.self.now in
    let points = c.as_slice.ensures ∙ c.in_order.ensures in
    rw points (point_is_there s.parts.now s.compact.now c.requires.ready.0 c.args.place c.requires.place)

pub returns : goal.returns
returns c = λ j lane_in there.
    let s = c.args.self.now in
    let t = s.parts.now in
    let k = s.compact.now in
    let b = c.args.block in
    let w = pattern_of b j in
    let q = c.args.place in
    let blocks = s.rows.now in
    let block = c.index-blocks-block.result in
    let in_patterns : w < length t.patterns = omega (arith, there, length-compact_rows t k) in
    let in_blocks : b < length blocks = omega (arith, c.requires.ready.1.count, c.requires.block, length-compact_rows t k) in
    let read : block ≡ get_or blocks b no_block = rw c.blocks-2.ensures at c.index-blocks-block.is ∙ get_or_default blocks b block no_block in_blocks in
    let rows : AreBlockRows t b block = subst (λ (x : Block). AreBlockRows t b x) (sym read) (c.requires.ready.1.each b in_blocks) in
    let points = c.as_slice.ensures ∙ c.in_order.ensures in
    c.shown_in_block.ensures b j rows lane_in in_patterns
    ∙ ap (λ (ps : List Point). compact_value t k None w (get_or ps q (Output 0))) points
    ∙ sym (get_or-map (compact_value t k None w) k.points q (Output 0) Unknown c.requires.place)
    ∙ sym (ap (λ (row : List Tri). value_at row q) (compact_row t k w [] in_patterns))
