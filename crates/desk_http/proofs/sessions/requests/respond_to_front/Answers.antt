use Rattle.std.proofs.Common.{◌≡◌, ◌+◌, ◌-◌, ℕ, List, take, drop, slice_range, sym, subst}
use Rattle.std.specs.Str.{IsUtf8}
use Rattle.std.proofs.lemmas.Str.{IsUtf8-from_ascii}
use Rattle.httparse.specs.Spans.{span_bytes}
use Rattle.desk_answers.specs.BookAnswers.{IsAnswer}
use Rattle.final_replies.specs.FinalReplies.{Responds}
use Rattle.desk_http.proofs.sessions.requests.respond_to_front.Goals as goal

pub unreachable-requires : goal.unreachable-requires
unreachable-requires g c =
    let span = c.args.head.target in
    absurd (c.in_default.ensures.cases.0 (subst (λ (b : List ℕ). IsUtf8 (take (span.end - span.start) (drop span.start b))) (sym c.bytes-bytes.ensures) (IsUtf8-from_ascii _ c.requires.head.ascii)))

pub returns-clause-responds : goal.returns-clause-responds
returns-clause-responds g c =
    let s = g.S.SeatAt.facts c.args.seat.now c.args.site.now.desk.now in
    let new = g.S.SeatAt.facts c.respond-turn.new.seat c.args.site.now.desk.now in
    let h = c.args.head in
    let same : c.bytes-bytes.result.now ≡ c.args.inbox.now = c.bytes-bytes.ensures in
    let target : c.in-Ok.target.now ≡ span_bytes c.bytes-bytes.result.now h.target = c.in-Ok.ensures.cases.0 in
    let by_target = subst (λ (t : List ℕ). Responds (λ deeds answer. IsAnswer s.limit deeds t h.method (slice_range c.bytes-bytes.result.now h.length (h.length + h.body)) answer) c.args.closes c.respond-turn.result.mark c.respond-turn.result.end s new
    (g.L.Link.sent c.args.link.now) (g.L.Link.sent c.respond-turn.new.link)) target c.respond-turn.ensures.responds in
    subst (λ (b : List ℕ). Responds (λ deeds answer. IsAnswer s.limit deeds (span_bytes b h.target) h.method (slice_range b h.length (h.length + h.body)) answer) c.args.closes c.respond-turn.result.mark c.respond-turn.result.end s new
    (g.L.Link.sent c.args.link.now) (g.L.Link.sent c.respond-turn.new.link)) same by_target
