use Rattle.std.proofs.Common.{◌≡◌, ◌-◌, ◌<◌, ◌≤◌, length}
use Rattle.std.specs.Io.KnownBytes.{prepend_known}
use Rattle.desk_heads.specs.Heads.{head_limit}
use Rattle.desk_heads.specs.InboxReads.{Grows, HasHead, EndsInPiece}
use Rattle.desk_heads.proofs.incoming.read_head.Given as goal

abbrev pub invariant-loop-fault : goal.invariant-loop-fault
invariant-loop-fault g l = record {
  comes : prepend_known l.fn.inbox (g.L.Link.left l.fn.link) ≡ prepend_known l.inbox (g.L.Link.left l.link);
  grows : Grows l.fn.inbox l.inbox;
  there : HasHead l.fn.inbox → l.link ≡ l.fn.link;
  needed : length l.fn.inbox < length l.inbox → EndsInPiece (length l.piece) l.fn.inbox l.inbox;
  sent : g.L.Link.sent l.link ≡ g.L.Link.sent l.fn.link;
  later : g.L.Link.faults l.fn.link ≤ g.L.Link.faults l.link;
}

abbrev pub decreases-loop-fault : goal.decreases-loop-fault
decreases-loop-fault g l = head_limit - length l.inbox
