use Rattle.std.proofs.Common.{◌≡◌, ◌+◌, ◌≤◌, ◌++◌, length, map, take, vec_len}
use Rattle.std.specs.Prelude.{vec_capacity}
use Rattle.std.specs.List.{enumerate_from}
use Rattle.text_parts.specs.Views.{nows}
use Rattle.bench_reader.specs.NetUses.{use_views, operand_use}
use Rattle.bench_reader.proofs.first_round.add_operands.Given as goal

abbrev pub invariant-loop-i : goal.invariant-loop-i
invariant-loop-i l = record {
  uses : use_views l.uses.items ≡ use_views l.fn.uses.items ++ map (operand_use l.line l.net) (enumerate_from 0 (nows (take l.i l.operands)));
  room : vec_len l.uses + length l.operands ≤ vec_capacity l.uses + l.i;
}
