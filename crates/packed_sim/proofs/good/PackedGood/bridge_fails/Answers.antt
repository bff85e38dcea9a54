use Rattle.std.proofs.Common.{◌+◌, ◌*◌, ◌/◌, ◌%◌, ◌∙◌}
use Rattle.scan_model.specs.declared.fault.Fault.TheVariants as fault
use Rattle.scan_model.proofs.Sites.{site_of}
use Rattle.packed_sim.specs.PackedParts.{now_at, observed_at}
use Rattle.packed_sim.proofs.FaultBits.{lane_inside, block_inside, bridge_bit, bridge_apart}
use Rattle.packed_sim.proofs.good.PackedGood.bridge_fails.Goals as goal

pub bridged_row-row-requires : goal.bridged_row-row-requires
bridged_row-row-requires g c =
    let site = site_of c.args.parts.now (fault.Bridge c.args.bridge.0 c.args.bridge.1 c.args.bridge.2) c.circuit.ensures.fits c.requires.fault in
    record { good = c.requires.good; block = block_inside c.args.parts.now c.args.self.now c.args.word c.requires.good c.requires.word; a = site.0; b = site.1 }

pub force_bridge-requires : goal.force_bridge-requires
force_bridge-requires g c =
    let site = site_of c.args.parts.now (fault.Bridge c.args.bridge.0 c.args.bridge.1 c.args.bridge.2) c.circuit.ensures.fits c.requires.fault in
    record {
      good = c.requires.good;
      scratch = c.requires.scratch;
      block = block_inside c.args.parts.now c.args.self.now c.args.word c.requires.good c.requires.word;
      first = site.0;
      second = site.1;
      apart = bridge_apart c.args.parts.now c.circuit.ensures.fits c.args.self.now.wiring.order.items c.requires.good.built.wired.wired.ordered c.args.bridge.0 c.args.bridge.1 c.args.bridge.2 c.requires.fault;
    }

pub returns-clause-fails : goal.returns-clause-fails
returns-clause-fails g c k i lt i_lt =
    let t = c.args.parts.now in
    let word = c.args.word in
    let j = 64 * (word % 8) + i in
    c.write_differences.ensures k i lt i_lt
    ∙ bridge_bit t c.circuit.ensures.fits c.args.self.now.wiring.order.items c.requires.good.built.wired.wired.ordered c.args.self.now c.requires.good c.args.bridge.0 c.args.bridge.1 c.args.bridge.2 word k i c.requires.word lt i_lt c.bridged_row-row.result
    (now_at c.args.self.now c.force_bridge.new.scratch (word / 8) j (observed_at t k))
    (λ captured. c.bridged_row-row.ensures j (lane_inside word i i_lt) captured)
    (λ captured. c.force_bridge.ensures.values k j lt (lane_inside word i i_lt) captured)
