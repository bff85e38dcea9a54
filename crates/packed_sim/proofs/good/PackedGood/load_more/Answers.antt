use Rattle.std.proofs.Common.{◌≡◌, ◌+◌, ◌-◌, ℕ, subst, arith}
use Rattle.std.proofs.lemmas.Bool.{both_ways}
use Rattle.place_sets.specs.Places.{has_place}
use Rattle.packed_sim.specs.ChainLoads.{IsOpenLoad}
use Rattle.packed_sim.proofs.Settled.{moved_on}
use Rattle.packed_sim.proofs.Loading.{loaded_open, load_settled}
use Rattle.packed_sim.proofs.good.PackedGood.load_more.Goals as goal

pub load_cell-requires-clause-opened : goal.load_cell-requires-clause-opened
load_cell-requires-clause-opened g c = loaded_open c.args.parts.now c.chains.ensures.fits c.args.self.now c.requires.good c.args.block c.requires.block c.args.fault_cell.0 c.requires.chain c.args.kind (c.args.fault_cell.1 + 1) c.args.scratch.now c.requires.loaded

pub settle-requires-clause-wiring : goal.settle-requires-clause-wiring
settle-requires-clause-wiring g c = rw c.circuit-circuit.ensures.value c.requires.good.built.wired.wired

pub settle-requires-clause-kept : goal.settle-requires-clause-kept
settle-requires-clause-kept g c = rw c.circuit-circuit.ensures.value c.requires.good.built.kept

pub settle-requires-clause-fits : goal.settle-requires-clause-fits
settle-requires-clause-fits g c = rw (c.circuit-circuit.ensures.value, c.values-good.ensures) c.load_cell.ensures.opened.fits

pub returns-clause-loaded : goal.returns-clause-loaded
returns-clause-loaded g c =
    let t = c.args.parts.now in
    let back : (c.args.fault_cell.1 + 1) - 1 ≡ c.args.fault_cell.1 = omega arith in
    load_settled t c.chains.ensures.fits c.args.self.now c.requires.good c.args.block c.requires.block c.args.fault_cell.0 c.requires.chain c.args.kind c.args.fault_cell.1 c.args.scratch.now c.load_cell.new.scratch c.settle.new.self c.requires.loaded.inside
    (subst (λ (k : ℕ). IsOpenLoad t c.args.self.now c.args.block c.args.fault_cell.0 k c.args.kind c.load_cell.new.scratch) back c.load_cell.ensures.opened)
    (c.load_cell.ensures.within c.args.fault_cell.1 (omega arith) (λ k has. absurd (both_ways (has_place c.args.scratch.now.waiting k) (c.requires.loaded.inside.empty k) has)))
    c.load_cell.ensures.room
    (rw (c.circuit-circuit.ensures.value, c.values-good.ensures) at c.settle.ensures.fits) c.settle.ensures.empty c.settle.ensures.room
    (rw (c.circuit-circuit.ensures.value, c.values-good.ensures) at c.settle.ensures.leaves)
    (rw (c.circuit-circuit.ensures.value, c.values-good.ensures) at c.settle.ensures.settled)

pub returns-clause-moved : goal.returns-clause-moved
returns-clause-moved g c = moved_on _ c.args.scratch.now c.load_cell.new.scratch c.settle.new.self c.load_cell.ensures.moved (rw c.values-good.ensures at c.settle.ensures.moved)
