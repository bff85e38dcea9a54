use Rattle.std.proofs.Common.{◌≡◌, ◌+◌, ◌-◌, ◌<◌, ◌≤◌, length}
use Rattle.std.specs.Io.KnownBytes.{prepend_known}
use Rattle.desk_heads.specs.InboxReads.{Grows}
use Rattle.desk_heads.proofs.incoming.read_to.Given as goal

abbrev pub invariant-loop-inbox : goal.invariant-loop-inbox
invariant-loop-inbox g l = record {
  comes : prepend_known l.fn.inbox (g.L.Link.left l.fn.link) ≡ prepend_known l.inbox (g.L.Link.left l.link);
  grows : Grows l.fn.inbox l.inbox;
  there : l.count ≤ length l.fn.inbox → l.link ≡ l.fn.link;
  needed : length l.fn.inbox < length l.inbox → length l.inbox < l.count + length l.piece;
  sent : g.L.Link.sent l.link ≡ g.L.Link.sent l.fn.link;
  later : g.L.Link.faults l.fn.link ≤ g.L.Link.faults l.link;
}

abbrev pub decreases-loop-inbox : goal.decreases-loop-inbox
decreases-loop-inbox g l = l.count - length l.inbox
