use Rattle.std.proofs.Common.{◌≡◌, ◌+◌, ◌*◌, ◌<◌, ◌++◌, ℕ, List, length, get_or, ◌∙◌, ap, arith}
use Rattle.std.specs.Prelude.{slice_get}
use Rattle.std.proofs.lemmas.List.{get_or_default}
use Rattle.std.proofs.lemmas.List.Elements.{Contains-append_right}
use Rattle.scan_model.specs.declared.parts.Chain.{Chain}
use Rattle.scan_model.specs.declared.fault.Fault.TheVariants.{Cell}
use Rattle.scan_model.specs.ScanTest.{no_chain}
use Rattle.scan_model.specs.Universe.{stems, branches, bridges, cells, cell_faults}
use Rattle.scan_model.proofs.Sites.{site_of}
use Rattle.fault_universe.proofs.CellPlaces.{chain_room, cell_stands}
use Rattle.fault_universe.proofs.cells.cell_place.Goals as goal
use Rattle.fault_universe.proofs.cells.cell_place.Goals.{then-at-chains-via-then-at-chains, then-at-chains-via-else-at-chains+then-pos-len}

pub returns-then-at-chains-clause-place : goal.returns-then-at-chains-clause-place
returns-then-at-chains-clause-place c = λ there.
    let t = c.args.parts.now in
    let f = Cell c.args.chain c.args.pos c.args.kind in
    let site = site_of t f c.chains_of-chains.ensures.fits (Contains-append_right (stems t ++ branches t ++ bridges t) (cells t) f there) in
    elim c.then-at-chains.branch [
      | then-at-chains-via-then-at-chains w ↦ absurd (omega (arith, site.0, w.if-at-chains.true, ap (λ (cs : List Chain). length cs) c.chains_of-chains.ensures.chains))
      | then-at-chains-via-else-at-chains+then-pos-len w ↦
          let chains = c.chains_of-chains.result.now in
          let one : get_or chains c.args.chain w.index-chains-at.result ≡ get_or t.chains c.args.chain no_chain = get_or_default chains c.args.chain w.index-chains-at.result no_chain w.if-at-chains.false ∙ ap (λ (cs : List Chain). get_or cs c.args.chain no_chain) c.chains_of-chains.ensures.chains in
          absurd (omega (arith, site.1, w.if-pos-len.true, w.len.ensures, ap (λ (x : Chain). length x.cells) one))
    ]

pub overflow_add-result : goal.overflow_add-result
overflow_add-result c = omega (arith, c.len.ensures, c.if-pos-len.false, c.cells_before.ensures, chain_room c.chains_of-chains.result.now c.args.chain c.index-chains-at.result c.if-at-chains.false, c.chains_of-chains.ensures.few_cells)

pub overflow_mul-result : goal.overflow_mul-result
overflow_mul-result c = omega (arith, c.len.ensures, c.if-pos-len.false, c.cells_before.ensures, chain_room c.chains_of-chains.result.now c.args.chain c.index-chains-at.result c.if-at-chains.false, c.chains_of-chains.ensures.few_cells)

pub overflow_add-result-2 : goal.overflow_add-result-2
overflow_add-result-2 c = omega (arith, c.number_of.ensures.small, c.len.ensures, c.if-pos-len.false, c.cells_before.ensures, chain_room c.chains_of-chains.result.now c.args.chain c.index-chains-at.result c.if-at-chains.false, c.chains_of-chains.ensures.few_cells)

pub returns-clause-small : goal.returns-clause-small
returns-clause-small c = omega (arith, c.number_of.ensures.small, c.len.ensures, c.if-pos-len.false, c.cells_before.ensures, chain_room c.chains_of-chains.result.now c.args.chain c.index-chains-at.result c.if-at-chains.false, c.chains_of-chains.ensures.few_cells)

pub returns-clause-place : goal.returns-clause-place
returns-clause-place c =
    let chains = c.chains_of-chains.result.now in
    let inside : c.args.pos < length (get_or chains c.args.chain c.index-chains-at.result).cells = omega (arith, c.if-pos-len.false, c.len.ensures) in
    let start : 0 + c.args.chain ≡ c.args.chain = omega arith in
    let at = cell_stands 0 chains c.args.chain c.args.pos c.number_of.result (4 * (c.cells_before.result + c.args.pos) + c.number_of.result) c.index-chains-at.result c.if-at-chains.false inside c.number_of.ensures.small (omega (arith, c.cells_before.ensures)) in
    rw (← c.chains_of-chains.ensures.chains) (at ∙ ap (λ (n : ℕ). slice_get (cell_faults n c.args.pos) c.number_of.result) start ∙ c.number_of.ensures.kind c.args.chain c.args.pos)
