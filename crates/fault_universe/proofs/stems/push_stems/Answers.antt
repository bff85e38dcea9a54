use Rattle.std.proofs.Common.{append_assoc, ◌∷◌, [], ◌∙◌}
use Rattle.scan_model.specs.declared.fault.Stuck.TheVariants.{Zero, One}
use Rattle.scan_model.specs.declared.fault.Fault.TheVariants.{Stem}
use Rattle.fault_universe.proofs.StemPlaces.{stems_more}
use Rattle.fault_universe.proofs.stems.push_stems.Goals as goal

pub loop-net-preserved : goal.loop-net-preserved
loop-net-preserved c =
    let n = c.loop-net.net in
    rw (c.in_ok-push-2.ensures.ok, c.in_ok-push.ensures.ok) (append_assoc c.loop-net.faults (Stem n Zero ∷ []) (Stem n One ∷ []) ∙ rw c.loop-net.invariant (stems_more c.args.faults.now n))
