use Rattle.std.proofs.Common.{◌≡◌, ◌∙◌, ℕ, List, ◌++◌, length, subst, ap}
use Rattle.desk_replies.specs.Replies.{reply_head, reply_text}
use Rattle.final_replies.specs.FinalReplies.{Replied}
use Rattle.final_replies.proofs.sending.send_response.Goals as goal

pub returns-clause-sent : goal.returns-clause-sent
returns-clause-sent g c =
    let r = c.args.response.now in
    let body = c.as_slice-body.ensures in
    let head : c.as_slice.result.now ≡ reply_head r.status r.methods c.args.closes (length r.body) = cc (c.as_slice.ensures.bytes, c.head.ensures, body) in
    let whole : c.as_slice.result.now ++ c.as_slice-body.result.now ≡ reply_text r.status r.methods c.args.closes r.body =
    ap (λ (h : List ℕ). h ++ c.as_slice-body.result.now) head ∙ ap (λ (b : List ℕ). reply_head r.status r.methods c.args.closes (length r.body) ++ b) body in
    subst (λ (t : List ℕ). Replied c.send_reply.result c.args.closes t (g.L.Link.sent c.args.link.now) (g.L.Link.sent c.send_reply.new.link)) whole c.send_reply.ensures.sent
