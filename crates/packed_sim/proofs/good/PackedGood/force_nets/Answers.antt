use Rattle.std.proofs.Common.{List, ◌≤◌, ◌+◌, [], ◌∷◌, subst, sym, arith}
use Rattle.std.specs.Prelude.{count_by}
use Rattle.scan_model.specs.Netlist.{Netlist}
use Rattle.lane_rows.specs.Stimuli.{stimuli_of}
use Rattle.packed_sim.specs.Propagation.{AreApart, IsForced, is_downstream}
use Rattle.scan_model.proofs.counting.OneSite.{force_two}
use Rattle.lane_rows.specs.Planes.{Planes, held}
use Rattle.packed_sim.proofs.Belonging.{fits_of, inside_of, own_rows, forced_at, few_steps}
use Rattle.packed_sim.proofs.good.PackedGood.force_nets.Goals as goal

pub force_pair-requires-clause-wiring : goal.force_pair-requires-clause-wiring
force_pair-requires-clause-wiring g c = rw c.circuit.ensures.value c.requires.good.built.wired.wired

pub force_pair-requires-clause-kept : goal.force_pair-requires-clause-kept
force_pair-requires-clause-kept g c = rw c.circuit.ensures.value c.requires.good.built.kept

pub force_pair-requires-clause-fits : goal.force_pair-requires-clause-fits
force_pair-requires-clause-fits g c = rw (c.circuit.ensures.value, c.values-good.ensures) (fits_of c.args.parts.now c.circuit.ensures.fits c.args.self.now c.requires.good.built c.args.block c.args.scratch.now c.requires.block c.requires.scratch.inside)

pub force_pair-requires-clause-clean : goal.force_pair-requires-clause-clean
force_pair-requires-clause-clean g c = c.requires.scratch.clean

pub force_pair-requires-clause-empty : goal.force_pair-requires-clause-empty
force_pair-requires-clause-empty g c = c.requires.scratch.inside.empty

pub force_pair-requires-clause-first : goal.force_pair-requires-clause-first
force_pair-requires-clause-first g c = rw c.circuit.ensures.value c.requires.first

pub force_pair-requires-clause-second : goal.force_pair-requires-clause-second
force_pair-requires-clause-second g c = rw c.circuit.ensures.value c.requires.second

pub force_pair-requires-clause-apart : goal.force_pair-requires-clause-apart
force_pair-requires-clause-apart g c = subst (λ (n : Netlist). AreApart n (c.args.nets.0 ∷ c.args.nets.1 ∷ [])) (sym c.circuit.ensures.value) c.requires.apart

pub returns-clause-scratch : goal.returns-clause-scratch
returns-clause-scratch g c = inside_of c.args.parts.now c.circuit.ensures.fits c.args.self.now c.requires.good.built c.args.block c.args.scratch.now c.force_pair.new.self c.requires.scratch.inside
    (rw (c.circuit.ensures.value, c.values-good.ensures) at c.force_pair.ensures.fits) c.force_pair.ensures.empty c.force_pair.ensures.room

pub returns-clause-values : goal.returns-clause-values
returns-clause-values g c =
    let order = c.args.self.now.wiring.order.items in
    let sinks = c.args.self.now.wiring.sinks in
    let of_circuit = subst (λ (n : Netlist). IsForced n order sinks c.values-good.result.now (λ j. force_two c.args.nets.0 c.args.nets.1 (held c.args.row j)) c.force_pair.new.self) c.circuit.ensures.value c.force_pair.ensures.values in
    let of_block = subst (λ (v : List Planes). IsForced c.args.parts.now.netlist order sinks v (λ j. force_two c.args.nets.0 c.args.nets.1 (held c.args.row j)) c.force_pair.new.self) c.values-good.ensures of_circuit in
    forced_at c.args.parts.now c.circuit.ensures.fits c.args.self.now c.requires.good.built (stimuli_of c.args.parts.now) (own_rows c.args.parts.now c.args.self.now c.requires.good) c.args.block c.force_pair.new.self (λ j. force_two c.args.nets.0 c.args.nets.1 (held c.args.row j)) c.requires.block of_block

pub returns-clause-steps : goal.returns-clause-steps
returns-clause-steps g c =
    let order = c.args.self.now.wiring.order.items in
    let few : c.force_pair.new.steps ≤ c.args.steps.now + count_by (is_downstream c.args.parts.now.netlist (c.args.nets.0 ∷ c.args.nets.1 ∷ [])) order = subst (λ (n : Netlist). c.force_pair.new.steps ≤ c.args.steps.now + count_by (is_downstream n (c.args.nets.0 ∷ c.args.nets.1 ∷ [])) order) c.circuit.ensures.value c.force_pair.ensures.steps in
    omega (arith, few, few_steps c.args.parts.now c.circuit.ensures.fits c.args.self.now c.requires.good.built (c.args.nets.0 ∷ c.args.nets.1 ∷ []))
