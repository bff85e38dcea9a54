use Rattle.std.proofs.Common.{ℕ, List, subst, append-nil}
use Rattle.final_replies.specs.FinalReplies.{Replied}
use Rattle.final_replies.proofs.sending.send_fixed.Goals as goal

pub returns-clause-sent : goal.returns-clause-sent
returns-clause-sent g c =
    subst (λ (t : List ℕ). Replied c.send_reply.result c.args.closes t (g.L.Link.sent c.args.link.now) (g.L.Link.sent c.send_reply.new.link)) (append-nil c.args.reply.now) c.send_reply.ensures.sent
