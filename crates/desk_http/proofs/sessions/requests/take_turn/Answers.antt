use Rattle.std.proofs.Common.{◌≡◌, ◌<◌, Some, length, refl, ap, rules}
use Rattle.desk_http.proofs.TurnReads.{head_refused, nothing_came, part_came, head_unread, head_unkept, takes_as, takes_sent}
use Rattle.desk_http.proofs.sessions.requests.take_turn.Goals as goal

pub returns-in-Refused-clause-takes : goal.returns-in-Refused-clause-takes
returns-in-Refused-clause-takes g c =
    takes_sent c.in-Refused.ensures.sent
    (head_refused _ _ c.args.inbox.now c.read_head.new.inbox (g.L.Link.left c.args.link.now) (g.L.Link.left c.read_head.new.link) _ _ (c.in-Refused.ensures.comes (λ no. cc)) c.in-Refused.fault c.in-Refused.ensures.head
    _ _ _ (ap Some c.mark.ensures.number) c.send_refusal.ensures.sent)

pub returns-in-End-clause-takes : goal.returns-in-End-clause-takes
returns-in-End-clause-takes g c =
    let none : length c.read_head.new.inbox ≡ 0 = search rules in
    takes_as c.silent.ensures.mark c.silent.ensures.end (takes_sent c.in-End.ensures.sent
    (nothing_came _ _ c.args.inbox.now c.read_head.new.inbox (g.L.Link.left c.args.link.now) (g.L.Link.left c.read_head.new.link) _ _ (c.in-End.ensures.comes (λ no. cc)) c.in-End.ensures.head.0 c.in-End.ensures.head.1 none))

pub returns-in-End-2-clause-takes : goal.returns-in-End-2-clause-takes
returns-in-End-2-clause-takes g c =
    let some : 0 < length c.read_head.new.inbox = search rules in
    takes_as c.silent-in-End-2.ensures.mark c.silent-in-End-2.ensures.end (takes_sent c.in-End.ensures.sent
    (part_came _ _ c.args.inbox.now c.read_head.new.inbox (g.L.Link.left c.args.link.now) (g.L.Link.left c.read_head.new.link) _ _ (c.in-End.ensures.comes (λ no. cc)) c.in-End.ensures.head.0 c.in-End.ensures.head.1 some))

pub returns-in-LinkFault-clause-takes : goal.returns-in-LinkFault-clause-takes
returns-in-LinkFault-clause-takes g c =
    takes_as c.silent-in-LinkFault.ensures.mark c.silent-in-LinkFault.ensures.end (takes_sent c.in-LinkFault.ensures.sent
    (head_unread _ _ c.args.inbox.now c.read_head.new.inbox (g.L.Link.left c.args.link.now) (g.L.Link.left c.read_head.new.link) _ _))

pub returns-in-NoMemory-clause-takes : goal.returns-in-NoMemory-clause-takes
returns-in-NoMemory-clause-takes g c =
    takes_sent c.in-NoMemory.ensures.sent
    (head_unkept _ _ c.args.inbox.now c.read_head.new.inbox (g.L.Link.left c.args.link.now) (g.L.Link.left c.read_head.new.link) _ _ (c.in-NoMemory.ensures.lost refl)
    _ _ _ (ap Some c.mark-in-NoMemory.ensures.number) c.send_no_memory.ensures.sent)
