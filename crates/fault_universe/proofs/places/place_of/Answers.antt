use Rattle.std.proofs.Common.{◌≡◌, ◌+◌, ◌++◌, length, arith, length-append}
use Rattle.scan_model.specs.Universe.{stems, branches, bridges}
use Rattle.fault_universe.proofs.UniversePlaces.{finds_stem, finds_branch, finds_bridge, finds_cell}
use Rattle.fault_universe.proofs.places.place_of.Goals as goal

pub returns-in-Stem : goal.returns-in-Stem
returns-in-Stem c = rw c.in-Stem.is (finds_stem c.args.parts.now c.in-Stem.net c.in-Stem.value c.stem_place.result c.stem_place.ensures)

pub returns-in-Branch : goal.returns-in-Branch
returns-in-Branch c = rw (c.list_place.ensures, c.stem_count.ensures.count, c.in-Branch.is) (finds_branch c.args.parts.now c.in-Branch.pin c.in-Branch.value c.branch_place.result c.branch_place.ensures.place)

pub returns-in-Bridge : goal.returns-in-Bridge
returns-in-Bridge c =
    let t = c.args.parts.now in
    let before : c.stem_count-in-Bridge.result + c.branch_count.result ≡ length (stems t ++ branches t) = omega (arith, length-append (stems t) (branches t), c.stem_count-in-Bridge.ensures.count, c.branch_count.ensures.count) in
    rw (c.list_place-in-Bridge.ensures, before, c.in-Bridge.is) (finds_bridge t c.in-Bridge.a c.in-Bridge.b c.in-Bridge.kind c.bridge_place.result c.bridge_place.ensures.place)

pub returns-in-Cell : goal.returns-in-Cell
returns-in-Cell c =
    let t = c.args.parts.now in
    let before : c.stem_count-in-Cell.result + c.branch_count-in-Cell.result + c.bridge_count.result ≡ length (stems t ++ branches t ++ bridges t) = omega (arith, length-append (stems t ++ branches t) (bridges t), length-append (stems t) (branches t), c.stem_count-in-Cell.ensures.count, c.branch_count-in-Cell.ensures.count, c.bridge_count.ensures.count) in
    rw (c.list_place-in-Cell.ensures, before, c.in-Cell.is) (finds_cell t c.in-Cell.chain c.in-Cell.pos c.in-Cell.kind c.cell_place.result c.cell_place.ensures.place)
