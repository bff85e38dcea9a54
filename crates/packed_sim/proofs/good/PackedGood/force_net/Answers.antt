use Rattle.std.proofs.Common.{List, ◌≤◌, ◌+◌, [], ◌∷◌, subst, arith}
use Rattle.std.specs.Prelude.{count_by}
use Rattle.scan_model.specs.Netlist.{Netlist}
use Rattle.packed_sim.specs.Propagation.{IsForced, is_downstream}
use Rattle.scan_model.specs.Force.{force}
use Rattle.lane_rows.specs.Planes.{Planes, held}
use Rattle.packed_sim.proofs.Belonging.{fits_of, inside_of, forced_at, few_steps}
use Rattle.packed_sim.proofs.good.PackedGood.force_net.Goals as goal

pub force-requires-clause-wiring : goal.force-requires-clause-wiring
force-requires-clause-wiring g c = rw c.circuit.ensures.value c.requires.built.wired.wired

pub force-requires-clause-kept : goal.force-requires-clause-kept
force-requires-clause-kept g c = rw c.circuit.ensures.value c.requires.built.kept

pub force-requires-clause-fits : goal.force-requires-clause-fits
force-requires-clause-fits g c = rw (c.circuit.ensures.value, c.values-good.ensures) (fits_of c.args.parts.now c.circuit.ensures.fits c.args.self.now c.requires.built c.args.block c.args.scratch.now c.requires.block c.requires.scratch.inside)

pub force-requires-clause-clean : goal.force-requires-clause-clean
force-requires-clause-clean g c = c.requires.scratch.clean

pub force-requires-clause-empty : goal.force-requires-clause-empty
force-requires-clause-empty g c = c.requires.scratch.inside.empty

pub force-requires-clause-net : goal.force-requires-clause-net
force-requires-clause-net g c = rw c.circuit.ensures.value c.requires.net

pub returns-clause-scratch : goal.returns-clause-scratch
returns-clause-scratch g c = inside_of c.args.parts.now c.circuit.ensures.fits c.args.self.now c.requires.built c.args.block c.args.scratch.now c.force.new.self c.requires.scratch.inside
    (rw (c.circuit.ensures.value, c.values-good.ensures) at c.force.ensures.fits) c.force.ensures.empty c.force.ensures.room

pub returns-clause-values : goal.returns-clause-values
returns-clause-values g c σ rows =
    let order = c.args.self.now.wiring.order.items in
    let sinks = c.args.self.now.wiring.sinks in
    let of_circuit = subst (λ (n : Netlist). IsForced n order sinks c.values-good.result.now (λ j. force c.args.net (held c.args.row j)) c.force.new.self) c.circuit.ensures.value c.force.ensures.values in
    let of_block = subst (λ (v : List Planes). IsForced c.args.parts.now.netlist order sinks v (λ j. force c.args.net (held c.args.row j)) c.force.new.self) c.values-good.ensures of_circuit in
    forced_at c.args.parts.now c.circuit.ensures.fits c.args.self.now c.requires.built σ rows c.args.block c.force.new.self (λ j. force c.args.net (held c.args.row j)) c.requires.block of_block

pub returns-clause-steps : goal.returns-clause-steps
returns-clause-steps g c =
    let order = c.args.self.now.wiring.order.items in
    let few : c.force.new.steps ≤ c.args.steps.now + count_by (is_downstream c.args.parts.now.netlist (c.args.net ∷ [])) order = subst (λ (n : Netlist). c.force.new.steps ≤ c.args.steps.now + count_by (is_downstream n (c.args.net ∷ [])) order) c.circuit.ensures.value c.force.ensures.steps in
    omega (arith, few, few_steps c.args.parts.now c.circuit.ensures.fits c.args.self.now c.requires.built (c.args.net ∷ []))
