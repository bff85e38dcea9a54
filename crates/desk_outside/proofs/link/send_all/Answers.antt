use Rattle.std.proofs.Common.{arith, take, ◌∙◌}
use Rattle.std.proofs.lemmas.Grind.{common_steps}
use Rattle.desk_outside.proofs.Parts.{goes_on}
use Rattle.desk_outside.proofs.link.send_all.Goals as goal

pub loop-rest-preserved : goal.loop-rest-preserved
loop-rest-preserved g c =
    record {
      sent = goes_on _ _ _ _ c.loop-rest.rest.now (take c.in_ok-taken.taken c.loop-rest.rest.now) _ c.loop-rest.invariant.sent (grind (arith, common_steps)) c.in_ok-taken.ensures.added;
      left = c.in_ok-taken.ensures.left ∙ c.loop-rest.invariant.left;
      later = omega arith;
    }
