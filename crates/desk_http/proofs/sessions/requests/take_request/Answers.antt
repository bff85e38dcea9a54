use Rattle.std.proofs.Common.{◌≡◌, ◌∙◌, ◌*◌, ◌^◌, ◌<◌, Some, length, sym, ap, arith}
use Rattle.std.specs.Io.KnownBytes.{prepend_known, append_known}
use Rattle.desk_http.specs.Sessions.{interim_if}
use Rattle.desk_http.proofs.TurnReads.{uninvited, unread, cut_off, unkept, responded, takes_as}
use Rattle.desk_http.proofs.sessions.requests.take_request.Goals as goal

pub overflow_add-head : goal.overflow_add-head
overflow_add-head g c =
    let same : c.bytes-waiting.result.now ≡ c.args.inbox.now = c.bytes-waiting.ensures in
    let few : length c.bytes-waiting.result.now * 1 < 2 ^ 63 = c.bytes-waiting.type_inv.1 in
    omega (arith, c.requires.head.0.whole, c.requires.head.0.body, ap length same, few)

pub returns-in-Err-clause-takes : goal.returns-in-Err-clause-takes
returns-in-Err-clause-takes g c =
    takes_as c.silent.ensures.mark c.silent.ensures.end
    (uninvited _ _ c.args.inbox.now (g.L.Link.left c.args.link.now) c.args.head c.requires.head _ _ _ c.in-Err.ensures.part.0 c.in-Err.ensures.part.1)

pub returns-in-End-clause-takes : goal.returns-in-End-clause-takes
returns-in-End-clause-takes g c =
    let new = c.read_to.new.inbox in
    let rest = g.L.Link.left c.read_to.new.link in
    let comes : prepend_known c.args.inbox.now (g.L.Link.left c.args.link.now) ≡ prepend_known new rest = ap (prepend_known c.args.inbox.now) (sym c.in-Ok.ensures.left) ∙ c.in-End.ensures.comes (λ no. cc) in
    takes_as c.silent-in-End.ensures.mark c.silent-in-End.ensures.end
    (cut_off _ _ c.args.inbox.now (g.L.Link.left c.args.link.now) c.args.head c.requires.head _ _ _ (c.in-End.ensures.sent ∙ c.in-Ok.ensures.all) new rest comes c.in-End.ensures.grows c.in-End.ensures.body.0 c.in-End.ensures.body.1)

pub returns-in-LinkFault-clause-takes : goal.returns-in-LinkFault-clause-takes
returns-in-LinkFault-clause-takes g c =
    takes_as c.silent-in-LinkFault.ensures.mark c.silent-in-LinkFault.ensures.end
    (unread _ _ c.args.inbox.now (g.L.Link.left c.args.link.now) c.args.head c.requires.head _ _ _ (c.in-LinkFault.ensures.sent ∙ c.in-Ok.ensures.all))

pub returns-in-NoMemory-clause-takes : goal.returns-in-NoMemory-clause-takes
returns-in-NoMemory-clause-takes g c =
    unkept _ _ c.args.inbox.now (g.L.Link.left c.args.link.now) c.args.head c.requires.head _ _ (g.L.Link.sent c.read_to.new.link) (c.in-NoMemory.ensures.sent ∙ c.in-Ok.ensures.all) _ _ _
    (ap Some c.mark.ensures.number) c.send_no_memory.ensures.sent

pub returns-clause-takes : goal.returns-clause-takes
returns-clause-takes g c =
    let old = g.S.SeatAt.facts c.args.seat.now c.args.site.now.desk.now in
    let s = g.S.SeatAt.facts c.respond_to_front.new.seat c.args.site.now.desk.now in
    let left = g.L.Link.left c.args.link.now in
    let new = c.read_to.new.inbox in
    let used = c.respond_to_front.new.inbox in
    let rest = g.L.Link.left c.respond_to_front.new.link in
    let a = g.L.Link.sent c.args.link.now in
    let b = g.L.Link.sent c.read_to.new.link in
    let invited : b ≡ append_known a (interim_if c.args.head.awaits) = c.in-Whole.ensures.sent ∙ c.in-Ok.ensures.all in
    let comes : prepend_known c.args.inbox.now left ≡ prepend_known new rest =
    ap (prepend_known c.args.inbox.now) (sym c.in-Ok.ensures.left) ∙ c.in-Whole.ensures.comes (λ no. cc) ∙ ap (prepend_known new) (sym c.respond_to_front.ensures.left) in
    responded c.args.before old s c.args.inbox.now new used left rest c.args.head c.requires.head c.in-Whole.ensures.grows c.in-Whole.ensures.body comes c.respond_to_front.ensures.used
    a b (g.L.Link.sent c.respond_to_front.new.link) c.respond_to_front.result.mark c.respond_to_front.result.end c.closes_behind-closes.result c.closes_behind-closes.ensures invited c.respond_to_front.ensures.responds
