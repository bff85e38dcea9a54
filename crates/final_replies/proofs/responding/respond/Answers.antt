use Rattle.std.proofs.Common.{◌≡◌, ℕ, List, Some, Result, Err, ap, subst, rules}
use Rattle.desk_replies.specs.declared.response.Response.{Response}
use Rattle.desk_replies.specs.declared.response.AnswerFault.{AnswerFault}
use Rattle.desk_replies.specs.declared.response.AnswerFault.TheVariants as failed
use Rattle.desk_answers.specs.BookAnswers.{IsAnswer, Answered}
use Rattle.final_replies.specs.FinalReplies.{Replied}
use Rattle.final_replies.proofs.responding.respond.Goals as goal

pub returns-in-Err-KeeperFault-clause-responds : goal.returns-in-Err-KeeperFault-clause-responds
returns-in-Err-KeeperFault-clause-responds g c =
    let s = g.S.SeatAt.facts c.args.seat.now c.args.site.now.desk.now in
    let is : c.answer-came.result ≡ Err failed.KeeperFault = search rules in
    record {
      came = Err failed.KeeperFault;
      answered = subst (λ (r : Result Response AnswerFault). Answered (λ deeds answer. IsAnswer s.limit deeds c.args.request.now.target.now c.args.request.now.method c.args.request.now.body.now answer) r s (g.S.SeatAt.facts c.answer-came.new.seat c.args.site.now.desk.now)) is
          c.answer-came.ensures.answered;
      mark_is = ap Some c.mark.ensures.number;
      sent = subst (λ (t : List ℕ). Replied c.send_fixed-end.result c.args.closes t (g.L.Link.sent c.args.link.now) (g.L.Link.sent c.send_fixed-end.new.link)) c.keeper_fault.ensures c.send_fixed-end.ensures.sent;
    }
