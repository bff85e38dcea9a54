use Rattle.std.proofs.Common.{◌≡◌, ◌≤◌, ◌-◌, length}
use Rattle.std.specs.Prelude.{All}
use Rattle.report_cache.specs.Truth.{fresh_cache}
use Rattle.desk_serve.specs.Work.{cache_entries}
use Rattle.desk_serve.proofs.room.caches_of.Given as goal

abbrev pub invariant-loop-alloc : goal.invariant-loop-alloc
invariant-loop-alloc l = record {
  few : length l.caches.items ≤ l.count;
  fresh : All (λ cache. cache ≡ fresh_cache cache_entries) l.caches.items;
}

abbrev pub decreases-loop-alloc : goal.decreases-loop-alloc
decreases-loop-alloc l = l.count - length l.caches.items
