use Rattle.std.proofs.Common.{◌≡◌, drop}
use Rattle.desk_heads.proofs.HeadEnd.{behind}
use Rattle.desk_heads.specs.Heads.{head_length}
use Rattle.desk_heads.proofs.head.head_end.head_length.Given as goal

abbrev pub invariant-loop-place : goal.invariant-loop-place
invariant-loop-place l = behind l.place (head_length (drop l.place l.bytes)) ≡ head_length l.bytes
