use Rattle.std.proofs.Common.{◌≡◌, ◌∙◌, ◌+◌, ◌≤◌, ℕ, List, [], Option, length, sym, ap, subst, arith}
use Rattle.std.specs.Io.KnownBytes.{prepend_known}
use Rattle.final_replies.specs.declared.ends.SessionEnd.{SessionEnd}
use Rattle.final_replies.specs.declared.ends.SessionEnd.TheVariants.{NoMemory}
use Rattle.desk_http.specs.Sessions.{IsSession, Rise, with_mark}
use Rattle.desk_http.specs.Turns.{Takes}
use Rattle.desk_http.proofs.SessionSteps.{SoFar, begins, goes_on, ends_session, no_session, still_few, marks_few}
use Rattle.desk_answers.proofs.SeatSteps.{prefix_same}
use Rattle.desk_answers.proofs.KeptReports.{true_after}
use Rattle.desk_http.proofs.SessionLaws.{marks_rise}
use Rattle.desk_http.proofs.sessions.requests.session_at.Goals as goal

pub returns-in_default-clause-session : goal.returns-in_default-clause-session
returns-in_default-clause-session g c =
    let s = g.S.SeatAt.facts c.args.seat.now c.args.desk.now in
    let left = g.L.Link.left c.args.link.now in
    let sent = g.L.Link.sent c.args.link.now in
    subst (λ (ms : List ℕ). IsSession NoMemory ms s s left sent sent) (sym c.new.ensures) (no_session s left sent)

pub returns-in_default-clause-marks : goal.returns-in_default-clause-marks
returns-in_default-clause-marks g c =
    let s = g.S.SeatAt.facts c.args.seat.now c.args.desk.now in
    subst (λ (ms : List ℕ). Rise (length s.seen) ms (length s.seen)) (sym c.new.ensures) (omega arith)

pub loop-end-init : goal.loop-end-init
loop-end-init g c =
    let s = g.S.SeatAt.facts c.args.seat.now c.args.desk.now in
    let left = g.L.Link.left c.args.link.now in
    let sent = g.L.Link.sent c.args.link.now in
    let none : c.in-Ok.room.marks ≡ [] = c.in-Ok.ensures.marks in
    record {
      few = omega arith;
      many = omega (arith, ap length none);
      piece = c.in-Ok.ensures.piece;
      belongs = c.requires.belongs;
      truth = c.requires.cache;
      so_far = subst (λ (ms : List ℕ). SoFar 0 ms s s left (prepend_known c.in-Ok.room.inbox left) sent sent) (sym none)
          (subst (λ (i : List ℕ). SoFar 0 [] s s left (prepend_known i left) sent sent) (sym c.in-Ok.ensures.inbox) (begins s left sent));
      later = omega arith;
    }

pub returns-in-Some-clause-session : goal.returns-in-Some-clause-session
returns-in-Some-clause-session g c =
    let old = g.S.SeatAt.facts c.args.seat.now c.args.desk.now in
    let mid = g.S.SeatAt.facts c.loop-end.seat c.args.desk.now in
    let new = g.S.SeatAt.facts c.take_turn-turn.new.seat c.args.desk.now in
    let left = g.L.Link.left c.args.link.now in
    let coming = prepend_known c.loop-end.inbox (g.L.Link.left c.loop-end.link) in
    let after = prepend_known c.take_turn-turn.new.inbox (g.L.Link.left c.take_turn-turn.new.link) in
    let a = g.L.Link.sent c.args.link.now in
    let b = g.L.Link.sent c.loop-end.link in
    let d = g.L.Link.sent c.take_turn-turn.new.link in
    let marks : c.into_rows.result ≡ with_mark c.loop-end.marks c.take_turn-turn.result.mark = c.into_rows.ensures ∙ c.add.ensures in
    let takes = subst (λ (e : Option SessionEnd). Takes c.loop-end.before c.take_turn-turn.result.mark e mid new coming after b d) c.in-Some.is c.take_turn-turn.ensures.takes in
    subst (λ (ms : List ℕ). IsSession c.in-Some.end ms old new left a d) (sym marks)
    (ends_session c.loop-end.before c.loop-end.marks old mid new left coming after a b d c.loop-end.invariant.so_far c.take_turn-turn.result.mark c.in-Some.end takes)

pub returns-in-Some-clause-cache : goal.returns-in-Some-clause-cache
returns-in-Some-clause-cache g c =
    let mid = g.S.SeatAt.facts c.loop-end.seat c.args.desk.now in
    let new = g.S.SeatAt.facts c.take_turn-turn.new.seat c.args.desk.now in
    let takes = c.take_turn-turn.ensures.takes in
    c.take_turn-turn.ensures.cache new.seen (prefix_same new.seen)
    (true_after c.loop-end.cache mid.seen new.seen takes.did.seen c.loop-end.invariant.truth)

pub returns-in-Some-clause-marks : goal.returns-in-Some-clause-marks
returns-in-Some-clause-marks g c =
    marks_rise c.in-Some.end c.into_rows.result (g.S.SeatAt.facts c.args.seat.now c.args.desk.now) (g.S.SeatAt.facts c.take_turn-turn.new.seat c.args.desk.now)
    (g.L.Link.left c.args.link.now) (g.L.Link.sent c.args.link.now) (g.L.Link.sent c.take_turn-turn.new.link) (returns-in-Some-clause-session g c)

pub loop-end-preserved : goal.loop-end-preserved
loop-end-preserved g c =
    let old = g.S.SeatAt.facts c.args.seat.now c.args.desk.now in
    let mid = g.S.SeatAt.facts c.loop-end.seat c.args.desk.now in
    let new = g.S.SeatAt.facts c.take_turn-turn.new.seat c.args.desk.now in
    let left = g.L.Link.left c.args.link.now in
    let coming = prepend_known c.loop-end.inbox (g.L.Link.left c.loop-end.link) in
    let after = prepend_known c.take_turn-turn.new.inbox (g.L.Link.left c.take_turn-turn.new.link) in
    let a = g.L.Link.sent c.args.link.now in
    let b = g.L.Link.sent c.loop-end.link in
    let d = g.L.Link.sent c.take_turn-turn.new.link in
    let marked = c.take_turn-turn.result.mark in
    let takes = subst (λ (e : Option SessionEnd). Takes c.loop-end.before marked e mid new coming after b d) c.in_default-end.is c.take_turn-turn.ensures.takes in
    record {
      few = still_few c.loop-end.before marked mid new coming after b d c.loop-end.invariant.few takes;
      many = subst (λ (ms : List ℕ). length ms ≤ c.loop-end.before + 1) (sym c.add.ensures) (marks_few c.loop-end.marks marked c.loop-end.before c.loop-end.invariant.many);
      piece = c.loop-end.invariant.piece;
      belongs = c.take_turn-turn.ensures.stays;
      truth = c.take_turn-turn.ensures.cache new.seen (prefix_same new.seen)
          (true_after c.loop-end.cache mid.seen new.seen takes.did.seen c.loop-end.invariant.truth);
      so_far = subst (λ (ms : List ℕ). SoFar (c.loop-end.before + 1) ms old new left after a d) (sym c.add.ensures)
          (goes_on c.loop-end.before c.loop-end.marks old mid new left coming after a b d c.loop-end.invariant.so_far marked takes);
      later = omega (arith, c.loop-end.invariant.later, c.take_turn-turn.ensures.later);
    }
