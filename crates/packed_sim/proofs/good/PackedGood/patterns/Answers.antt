use Rattle.std.proofs.Common.{◌∙◌, ltb, length}
use Rattle.scan_model.specs.ScanTest.{pattern_at}
use Rattle.lane_rows.specs.GoodRows.{pattern_of}
use Rattle.packed_sim.proofs.ChainBits.{both_kinds}
use Rattle.packed_sim.proofs.good.PackedGood.patterns.Goals as goal

pub returns : goal.returns
returns c j lt =
    let t = c.args.parts.now in
    let b = c.args.block in
    let w = pattern_of b j in
    let rows = c.requires.good.rows.each b c.requires.block in
    c.or.ensures j lt ∙ rw (c.capture-capture.ensures, c.shift-shift.ensures, rows.capture j lt, rows.shift j lt) (both_kinds (ltb w (length t.patterns)) (pattern_at t w).kind)
