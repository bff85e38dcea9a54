use Rattle.std.proofs.Common.{◌+◌, drop, subst, arith}
use Rattle.scan_model.specs.ScanTest.{chain_at}
use Rattle.packed_sim.specs.Propagation.{IsSet}
use Rattle.packed_sim.proofs.Forcing.{places_fit}
use Rattle.packed_sim.proofs.Spreading.{set_within, set_moved}
use Rattle.packed_sim.proofs.Loading.{load_down, above_lt, above_apart, above_has}
use Rattle.packed_sim.proofs.good.PackedGood.load_cell.Goals as goal

pub set-requires : goal.set-requires
set-requires c =
    let t = c.args.parts.now in
    let fits = c.requires.opened.fits in
    let wired = c.requires.good.built.wired.wired in
    record {
      net = omega (arith, c.cell_at-net.ensures.in_range, fits.own);
      sinks = omega (arith, wired.nets, fits.own);
      places = places_fit t.netlist c.args.self.now.wiring.order.items c.args.self.now.wiring.sinks _ c.args.scratch.now c.cell_at-net.result wired fits c.cell_at-net.ensures.in_range;
      moved = omega (arith, c.cell_at-net.ensures.in_range, fits.moved_room);
    }

pub returns-clause-opened : goal.returns-clause-opened
returns-clause-opened c =
    let t = c.args.parts.now in
    load_down t c.chains.ensures.fits c.args.self.now c.requires.good c.args.block c.requires.block c.args.chain c.requires.chain c.args.kind c.args.at c.requires.above c.requires.within c.passed_row-row.result c.args.scratch.now c.set.new.self
    (subst (λ (n : _). IsSet c.args.self.now.wiring.sinks n c.passed_row-row.result c.args.scratch.now c.set.new.self) c.cell_at-net.ensures.value c.set.ensures)
    c.passed_row-row.ensures c.requires.opened

pub returns-clause-within : goal.returns-clause-within
returns-clause-within c pos less within =
    let t = c.args.parts.now in
    let g = c.args.self.now in
    let wired = c.requires.good.built.wired.wired in
    set_within t.netlist g.wiring.order.items c.chains.ensures.fits.circuit.netlist wired.ordered g.wiring.sinks _ wired c.cell_at-net.result c.cell_at-net.ensures.in_range c.passed_row-row.result c.args.scratch.now c.set.new.self c.requires.opened.fits c.set.ensures
    (drop (pos + 1) (chain_at t c.args.chain).cells)
    (above_lt t c.chains.ensures.fits g c.requires.good c.args.block c.requires.block c.args.chain c.requires.chain pos)
    (above_apart t c.chains.ensures.fits g c.requires.good c.args.block c.requires.block c.args.chain c.requires.chain pos)
    (rw c.cell_at-net.ensures.value (above_has t c.chains.ensures.fits g c.requires.good c.args.block c.requires.block c.args.chain c.requires.chain pos c.args.at less c.requires.within))
    within

pub returns-clause-room : goal.returns-clause-room
returns-clause-room c = c.set.ensures.room

pub returns-clause-moved : goal.returns-clause-moved
returns-clause-moved c =
    let t = c.args.parts.now in
    let g = c.args.self.now in
    let wired = c.requires.good.built.wired.wired in
    set_moved t.netlist g.wiring.order.items c.chains.ensures.fits.circuit.netlist wired.ordered g.wiring.sinks _ wired c.cell_at-net.result c.cell_at-net.ensures.in_range c.passed_row-row.result c.args.scratch.now c.set.new.self c.requires.opened.fits c.set.ensures
