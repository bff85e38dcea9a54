use Rattle.std.proofs.Common.{◌≡◌, ◌-◌, ◌<◌, ◌≤◌, length, vec_len}
use Rattle.std.specs.Io.KnownBytes.{prepend_known}
use Rattle.report_cache.specs.Truth.{IsTrueFor}
use Rattle.desk_heads.specs.Items.{item_limit}
use Rattle.desk_http.proofs.SessionSteps.{SoFar}
use Rattle.desk_http.proofs.sessions.requests.session_at.Given as goal

abbrev pub invariant-loop-end : goal.invariant-loop-end
invariant-loop-end g l = record {
  few : l.before < item_limit;
  many : length l.marks ≤ l.before;
  piece : vec_len l.piece ≡ 65536;
  belongs : g.S.SeatAt.belongs l.seat l.desk;
  truth : IsTrueFor l.cache (g.S.SeatAt.facts l.seat l.desk).seen;
  so_far : SoFar l.before l.marks (g.S.SeatAt.facts l.fn.seat l.desk) (g.S.SeatAt.facts l.seat l.desk) (g.L.Link.left l.fn.link) (prepend_known l.inbox (g.L.Link.left l.link)) (g.L.Link.sent l.fn.link) (g.L.Link.sent l.link);
  later : g.L.Link.faults l.fn.link ≤ g.L.Link.faults l.link;
}

abbrev pub decreases-loop-end : goal.decreases-loop-end
decreases-loop-end g l = item_limit - l.before
