use Rattle.final_replies.proofs.SentParts.{part_of_first, part_of_second}
use Rattle.final_replies.proofs.sending.send_reply.Goals as goal

pub returns-in-Err-clause-sent : goal.returns-in-Err-clause-sent
returns-in-Err-clause-sent g c = part_of_first _ _ c.args.head.now c.args.body.now c.in-Err.ensures.part

pub returns-in-Err-send_all-clause-sent : goal.returns-in-Err-send_all-clause-sent
returns-in-Err-send_all-clause-sent g c = part_of_second _ _ _ c.args.head.now c.args.body.now c.in-Ok.ensures.all c.in-Err-send_all.ensures.part
