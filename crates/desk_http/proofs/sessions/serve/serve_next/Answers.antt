use Rattle.std.proofs.Common.{◌==◌, not, ℕ, List, [], Option, Some, ap, subst, ◌∙◌}
use Rattle.desk_outside.specs.declared.door.LinkHome.{LinkHome}
use Rattle.desk_outside.specs.Doors.{handed}
use Rattle.desk_http.specs.Sessions.{IsSession}
use Rattle.desk_answers.proofs.SeatSteps.{did_nothing}
use Rattle.desk_http.proofs.ServeSteps.{told_after, home_is, rose_above}
use Rattle.desk_http.proofs.sessions.serve.serve_next.Goals as goal

pub returns-clause-served : goal.returns-clause-served
returns-clause-served g c told is_told =
    let old = g.S.SeatAt.facts c.args.seat.now c.args.desk.now in
    let new = g.S.SeatAt.facts c.session_at-note.new.seat c.args.desk.now in
    let note = c.session_at-note.result in
    let hand = c.in-Ok.ensures.handed told is_told in
    let faults = g.O.L.Link.faults c.session_at-note.new.link in
    let session = c.session_at-note.ensures.session in
    let sent = told_after note.end note.marks old new (g.O.L.Link.left c.in-Ok.link) (g.O.L.Link.sent c.in-Ok.link) (g.O.L.Link.sent c.session_at-note.new.link) session hand.2 in
    let home : LinkHome = record { sent = sent.0; failed = not (faults == 0) } in
    let by_left = subst (λ (l : Option (List ℕ)). IsSession note.end note.marks old new l (g.O.L.Link.sent c.in-Ok.link) (g.O.L.Link.sent c.session_at-note.new.link)) hand.1 session in
    let by_before = subst (λ (b : Option (List ℕ)). IsSession note.end note.marks old new (Some hand.0) b (g.O.L.Link.sent c.session_at-note.new.link)) hand.2 by_left in
    let by_after = subst (λ (a : Option (List ℕ)). IsSession note.end note.marks old new (Some hand.0) (Some []) a) sent.1 by_before in (
      hand.0,
      home,
      c.back.ensures.home (handed told hand.0) sent.0 hand.3 sent.1 ∙ ap Some (home_is told hand.0 sent.0 faults),
      record { marks = note.marks; session = by_after; failed = λ e. rose_above (g.O.L.Link.faults c.in-Ok.link) faults c.in-Ok.ensures.unfailed (c.session_at-note.ensures.failed e) },
    )

pub returns-in-Err-clause-did : goal.returns-in-Err-clause-did
returns-in-Err-clause-did g c = ([], 0, did_nothing (g.S.SeatAt.facts c.args.seat.now c.args.desk.now))

pub returns-clause-did : goal.returns-clause-did
returns-clause-did g c = (_, _, c.session_at-note.ensures.session.did)
