use Rattle.std.proofs.Common.{◌+◌, ◌*◌, ◌/◌, ◌%◌, ◌∙◌}
use Rattle.scan_model.specs.declared.fault.Fault.TheVariants as fault
use Rattle.scan_model.proofs.Sites.{site_of}
use Rattle.lane_rows.specs.Stimuli.{stimuli_of}
use Rattle.packed_sim.specs.PackedParts.{now_at, observed_at}
use Rattle.packed_sim.proofs.Belonging.{own_rows}
use Rattle.packed_sim.proofs.FaultBits.{lane_inside, block_inside, stem_bit}
use Rattle.packed_sim.proofs.good.PackedGood.stem_fails.Goals as goal

pub force_net-requires-clause-block : goal.force_net-requires-clause-block
force_net-requires-clause-block g c = block_inside c.args.parts.now c.args.self.now c.args.word c.requires.good c.requires.word

pub force_net-requires-clause-net : goal.force_net-requires-clause-net
force_net-requires-clause-net g c = site_of c.args.parts.now (fault.Stem c.args.stem.0 c.args.stem.1) c.circuit.ensures.fits c.requires.fault

pub returns-clause-fails : goal.returns-clause-fails
returns-clause-fails g c k i lt i_lt =
    let t = c.args.parts.now in
    let word = c.args.word in
    let j = 64 * (word % 8) + i in
    c.write_differences.ensures k i lt i_lt
    ∙ stem_bit t c.circuit.ensures.fits c.args.self.now.wiring.order.items c.requires.good.built.wired.wired.ordered c.args.self.now c.requires.good c.args.stem.0 c.args.stem.1 word k i c.requires.word lt i_lt c.all-row.result
    (now_at c.args.self.now c.force_net.new.scratch (word / 8) j (observed_at t k))
    (c.all-row.ensures j (lane_inside word i i_lt) ∙ c.stuck_at-forced.ensures)
    (λ captured. c.force_net.ensures.values (stimuli_of t) (own_rows t c.args.self.now c.requires.good) k j lt (lane_inside word i i_lt) captured)
