use Rattle.std.proofs.Common.{None}
use Rattle.scan_model.specs.Response.{response}
use Rattle.good_sim.proofs.Evaluated.{mapped_more}
use Rattle.good_sim.proofs.expected.good_rows.Goals as goal

pub loop-pattern-preserved : goal.loop-pattern-preserved
loop-pattern-preserved c = mapped_more (response c.args.parts.now None) c.loop-pattern.pattern c.loop-pattern.rows.items c.push.new.self.items c.in_ok-plain_response.field-0 c.in_ok-push.ensures.items c.loop-pattern.invariant c.in_ok-plain_response.ensures
