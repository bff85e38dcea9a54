use Rattle.std.proofs.Common.{rules, ◌≡◌, ◌<◌, [], ◌∷◌, ◌++◌, false, length, map, sym, ap, subst, ◌∙◌, append_assoc, length-append, vec_capacity, vec_len, arith}
use Rattle.std.specs.Prelude.{All}
use Rattle.std.specs.Vec.Iter.{into_iter_items}
use Rattle.std.proofs.lemmas.List.{length-map, map-append}
use Rattle.report_cache.specs.Truth.{fresh_cache}
use Rattle.desk_serve.specs.Work.{cache_entries}
use Rattle.desk_serve.proofs.Lists.{all_push, all_front, all_last}
use Rattle.desk_serve.proofs.workers.workers_of.Goals as goal

pub loop-seat-preserved : goal.loop-seat-preserved
loop-seat-preserved g c =
    let inv = c.loop-seat.invariant in
    let ws = c.loop-seat.workers.items in
    let door = c.in-Some-next.door in
    let rest = into_iter_items c.next-in-loop-seat.new.self in
    let pushed : c.push.new.self.items ≡ ws ++ record { seat = c.in-Some.seat; door = door; cache = c.in-Some-pop.cache; served = record { ended = 0; unserved = 0; door_failed = false } } ∷ [] = search rules in
    let seats = ap (map (λ w. w.seat)) pushed ∙ map-append (λ w. w.seat) ws _ ∙ ap (λ l. l ++ c.in-Some.seat ∷ []) inv.seats in
    let doors : map (λ w. w.door) c.push.new.self.items ≡ map (λ w. w.door) ws ++ door ∷ [] = ap (map (λ w. w.door)) pushed ∙ map-append (λ w. w.door) ws _ in
    let caches : c.loop-seat.caches.items ≡ c.pop.new.self.items ++ c.in-Some-pop.cache ∷ [] = c.in-Some-pop.ensures.items in
    let left = subst (All (λ cache. cache ≡ fresh_cache cache_entries)) caches inv.left in
    record {
      seats = seats;
      doors = inv.doors ∙ ap (λ l. map (λ w. w.door) ws ++ l) c.in-Some-next.ensures.items ∙ sym (append_assoc (map (λ w. w.door) ws) (door ∷ []) rest) ∙ ap (λ l. l ++ rest) (sym doors);
      fresh = subst (All (λ w. w.cache ≡ fresh_cache cache_entries)) (sym pushed) (all_push (λ w. w.cache ≡ fresh_cache cache_entries) ws _ inv.fresh (all_last (λ cache. cache ≡ fresh_cache cache_entries) c.pop.new.self.items c.in-Some-pop.cache left));
      caches = search rules;
      left = all_front (λ cache. cache ≡ fresh_cache cache_entries) c.pop.new.self.items (c.in-Some-pop.cache ∷ []) left;
      room = search rules;
    }

-- a door is left, so there are fewer workers than seats
pub unreachable-requires-then-is_err : goal.unreachable-requires-then-is_err
unreachable-requires-then-is_err g c =
    let inv = c.loop-seat.invariant in
    let ws = c.loop-seat.workers.items in
    let doors = ap length inv.doors ∙ length-append (map (λ w. w.door) ws) _ in
    let many = length-map ws (λ w. w.door) in
    let left = ap length c.in-Some-next.ensures.items in
    let room : vec_len c.loop-seat.workers < vec_capacity c.loop-seat.workers = omega (arith, c.loop-seat.workers.ok.0, doors, many, left, c.requires.doors, c.requires.room, inv.room) in
    let ok = c.push.ensures.succeeds room in
    let err = c.if-is_err.ensures.negation in
    absurd (cc)
