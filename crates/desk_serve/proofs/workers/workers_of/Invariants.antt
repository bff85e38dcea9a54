use Rattle.std.proofs.Common.{◌≡◌, ◌≤◌, ◌+◌, ◌++◌, [], length, map, vec_capacity}
use Rattle.std.specs.Prelude.{All}
use Rattle.std.specs.Vec.Iter.{into_iter_items}
use Rattle.report_cache.specs.Truth.{fresh_cache}
use Rattle.desk_serve.specs.Work.{cache_entries}
use Rattle.desk_serve.proofs.workers.workers_of.Given as goal

abbrev pub invariant-loop-seat : goal.invariant-loop-seat
invariant-loop-seat g l = record {
  seats : map (λ w. w.seat) l.workers.items ≡ l.yielded;
  doors : l.fn.doors.items ≡ map (λ w. w.door) l.workers.items ++ into_iter_items l.doors;
  fresh : All (λ w. w.cache ≡ fresh_cache cache_entries) l.workers.items;
  caches : length l.workers.items + length l.caches.items ≡ length l.fn.caches.items;
  left : All (λ cache. cache ≡ fresh_cache cache_entries) l.caches.items;
  room : vec_capacity l.fn.room ≤ vec_capacity l.workers;
}
