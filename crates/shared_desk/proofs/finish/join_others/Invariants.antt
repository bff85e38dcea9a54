use Rattle.std.proofs.Common.{◌≡◌, ◌++◌, List, vec_len}
use Rattle.std.specs.Prelude.{All, Contains}
use Rattle.shared_desk.specs.Turns.{IsJoined}
use Rattle.shared_desk.specs.Stages.{IsIdle}
use Rattle.shared_desk.specs.Seats.{SeatFacts, seat_note}
use Rattle.shared_desk.proofs.finish.join_others.Given as goal

abbrev pub invariant-loop-other : goal.invariant-loop-other
invariant-loop-other g l = record {
  same : l.first.table_id ≡ l.fn.first.table_id;
  idle : IsIdle l.first.me;
  joined : IsJoined l.fn.first.me.0 l.first.me.0;
  done : List SeatFacts;
  parts : l.fn.others.items ≡ l.others.items ++ done;
  noted : All (λ (seat : SeatFacts). Contains l.first.me.0.joined (seat_note seat)) done;
}

abbrev pub decreases-loop-other : goal.decreases-loop-other
decreases-loop-other g l = vec_len l.others
