use Rattle.std.proofs.Common.{◌≡◌, sym, ◌∙◌, arith}
use Rattle.std.specs.Prelude.{slice_get}
use Rattle.scan_model.specs.Universe.{universe, stems, branches, bridges, cells}
use Rattle.fault_universe.proofs.UniversePlaces.{site_at, in_second, in_third, in_fourth}
use Rattle.fault_universe.proofs.places.fault_at.Goals as goal

pub returns-then-after_stems-branches : goal.returns-then-after_stems-branches
returns-then-after_stems-branches c =
    let t = c.args.parts.now in
    let is : c.branch_at.result ≡ slice_get (universe t) c.args.place = c.branch_at.ensures ∙ sym (in_second (stems t) (branches t) (bridges t) (cells t) c.args.place c.stem_count-stems.result c.stem_count-stems.ensures.count c.if-place-stems.false (omega (arith, c.if-after_stems-branches.true, c.branch_count-branches.ensures.count))) in
    record { fault = is; site = site_at t c.branch_at.result c.args.place c.stem_count-stems.ensures.fits is }

pub returns-then-after_branches-bridges : goal.returns-then-after_branches-bridges
returns-then-after_branches-bridges c =
    let t = c.args.parts.now in
    let is : c.bridge_at.result ≡ slice_get (universe t) c.args.place = c.bridge_at.ensures ∙ sym (in_third (stems t) (branches t) (bridges t) (cells t) c.args.place c.stem_count-stems.result c.branch_count-branches.result c.stem_count-stems.ensures.count c.branch_count-branches.ensures.count c.if-place-stems.false c.if-after_stems-branches.false (omega (arith, c.if-after_branches-bridges.true, c.bridge_count-bridges.ensures.count))) in
    record { fault = is; site = site_at t c.bridge_at.result c.args.place c.stem_count-stems.ensures.fits is }

pub returns : goal.returns
returns c =
    let t = c.args.parts.now in
    let is : c.cell_at.result ≡ slice_get (universe t) c.args.place = c.cell_at.ensures ∙ sym (in_fourth (stems t) (branches t) (bridges t) (cells t) c.args.place c.stem_count-stems.result c.branch_count-branches.result c.bridge_count-bridges.result c.stem_count-stems.ensures.count c.branch_count-branches.ensures.count c.bridge_count-bridges.ensures.count c.if-place-stems.false c.if-after_stems-branches.false c.if-after_branches-bridges.false) in
    record { fault = is; site = site_at t c.cell_at.result c.args.place c.stem_count-stems.ensures.fits is }
