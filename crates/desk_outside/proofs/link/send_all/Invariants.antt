use Rattle.std.proofs.Common.{◌≡◌, ◌≤◌, length}
use Rattle.desk_outside.specs.Bytes.{AddsBefore}
use Rattle.desk_outside.proofs.link.send_all.Given as goal

abbrev pub invariant-loop-rest : goal.invariant-loop-rest
invariant-loop-rest g l = record {
  sent : AddsBefore (g.L.Link.sent l.fn.link) (g.L.Link.sent l.link) l.bytes l.rest;
  left : g.L.Link.left l.link ≡ g.L.Link.left l.fn.link;
  later : g.L.Link.faults l.fn.link ≤ g.L.Link.faults l.link;
}

abbrev pub decreases-loop-rest : goal.decreases-loop-rest
decreases-loop-rest g l = length l.rest
