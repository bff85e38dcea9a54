use Rattle.std.proofs.Common.{◌<◌, length, ap, arith}
use Rattle.packed_sim.specs.Rows.{RowsOver}
use Rattle.packed_sim.proofs.Dense.{named_inside, named_row}
use Rattle.packed_sim.proofs.changed_rows.ChangedRows.now.Goals as goal

pub bounds-list-place : goal.bounds-list-place
bounds-list-place c =
    let in_range : c.args.net < length c.self.inside.places.now = omega (arith, c.requires, ap (λ (r : RowsOver). length r.good) c.self.view_is, c.self.invariant.fits) in
    named_inside c.self.inside.places.now c.self.inside.lists c.self.told.1 c.self.invariant c.args.net in_range c.index-lists-place.result c.index-lists-place.is

pub returns : goal.returns
returns c =
    let in_range : c.args.net < length c.self.inside.places.now = omega (arith, c.requires, ap (λ (r : RowsOver). length r.good) c.self.view_is, c.self.invariant.fits) in
    rw (← c.self.view_is)
    (named_row c.self.inside.places.now c.self.inside.lists c.self.told.1 c.self.invariant c.args.net in_range c.index-lists-place.result c.index-lists-place.is c.index-list-place.result c.index-list-place.is)
