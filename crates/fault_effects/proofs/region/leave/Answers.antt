use Rattle.std.proofs.lemmas.List.Elements.{All-pop}
use Rattle.fault_effects.specs.Regions.{ShowsAs}
use Rattle.fault_effects.proofs.region.leave.Goals as goal

pub loop-preserved : goal.loop-preserved
loop-preserved c = λ m b root all. (All-pop (λ x. ShowsAs m b root x.net x.lanes) c.loop.members.items c.pop.new.self.items c.pop.result c.pop.ensures.items (c.loop.invariant m b root all)).0
