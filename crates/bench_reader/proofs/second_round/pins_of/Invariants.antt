use Rattle.std.proofs.Common.{◌≡◌, ◌+◌, ◌≤◌, length, map, take, drop, vec_len}
use Rattle.std.specs.Prelude.{vec_capacity}
use Rattle.bench_reader.specs.NetUses.{use_views, use_pin, undefined_use}
use Rattle.bench_reader.proofs.second_round.pins_of.Given as goal

abbrev pub invariant-loop-used : goal.invariant-loop-used
invariant-loop-used l = record {
  pins : l.pins.items ≡ map (use_pin l.defined) (use_views (take l.used-index l.uses));
  none : undefined_use l.defined (use_views (drop l.used-index l.uses)) ≡ undefined_use l.defined (use_views l.uses);
  room : vec_len l.pins + length l.uses ≤ vec_capacity l.pins + l.used-index;
}
