use Rattle.std.proofs.Common.{[], ◌+◌, ℕ, sym, subst, arith}
use Rattle.desk_http.specs.ServedConnections.{is_unserved, Serves}
use Rattle.desk_answers.proofs.SeatSteps.{did_nothing}
use Rattle.desk_http.proofs.ServeSteps.{did_some_on, count_few, none_served, one_more_served}
use Rattle.desk_http.proofs.sessions.serve.serve_door_at.Goals as goal

pub loop-ended-init : goal.loop-ended-init
loop-ended-init g c = record {
  few = omega arith;
  less = omega arith;
  belongs = c.requires.belongs;
  truth = c.requires.cache;
  did = ([], 0, did_nothing (g.S.SeatAt.facts c.args.seat.now c.args.desk.now));
  served = λ told is. none_served told (g.O.Door.told c.args.door.now) (g.S.SeatAt.facts c.args.seat.now c.args.desk.now) is;
  later = omega arith;
}

pub loop-ended-preserved : goal.loop-ended-preserved
loop-ended-preserved g c =
    let old = g.S.SeatAt.facts c.args.seat.now c.args.desk.now in
    let mid = g.S.SeatAt.facts c.loop-ended.seat c.args.desk.now in
    let new = g.S.SeatAt.facts c.serve_next.new.seat c.args.desk.now in
    let later = g.O.Door.told c.serve_next.new.door in
    record {
      few = omega arith;
      less = omega (arith, c.loop-ended.invariant.less, c.count_of-unserved.ensures, count_few (is_unserved c.in-Ok.end));
      belongs = c.serve_next.ensures.stays;
      truth = c.serve_next.ensures.cache;
      did = did_some_on old mid new c.loop-ended.invariant.did c.serve_next.ensures.did;
      served = λ told is.
          subst (λ (n : ℕ). Serves told later old new (c.loop-ended.ended + 1) (c.loop-ended.unserved + n)) (sym c.count_of-unserved.ensures)
          (one_more_served told (g.O.Door.told c.loop-ended.door) later old mid new c.loop-ended.ended c.loop-ended.unserved c.in-Ok.end (c.loop-ended.invariant.served told is) c.in-Ok.ensures.served);
      later = omega (arith, c.loop-ended.invariant.later, c.serve_next.ensures.later);
    }

pub returns-in_default-clause-did : goal.returns-in_default-clause-did
returns-in_default-clause-did g c =
    did_some_on (g.S.SeatAt.facts c.args.seat.now c.args.desk.now) (g.S.SeatAt.facts c.loop-ended.seat c.args.desk.now) (g.S.SeatAt.facts c.serve_next.new.seat c.args.desk.now) c.loop-ended.invariant.did c.serve_next.ensures.did
