use Rattle.std.proofs.Common.{rules, ◌≡◌, length, map, sym, ap, subst, ◌∙◌, refl, nat_lt}
use Rattle.std.specs.Prelude.{All, drop}
use Rattle.std.specs.List.{list_any}
use Rattle.desk_serve.specs.declared.workers.Worker.{Worker}
use Rattle.desk_serve.specs.Doors.{DoorFacts}
use Rattle.desk_serve.specs.Work.{CanWork, Work, instead_of, any_failed}
use Rattle.desk_serve.proofs.Lists.{beside, map_before, map_after, any_after, all_worked, map_twice, front_of_all}
use Rattle.desk_serve.specs.Work.{cache_entries}
use Rattle.desk_serve.proofs.FreshCaches.{can_work}
use Rattle.desk_serve.proofs.sessions.serve_doors.Goals as goal

pub serve_all-requires-after_bounds : goal.serve_all-requires-after_bounds
serve_all-requires-after_bounds g c κs within =
    subst (All (λ w. CanWork c.args.desk.now w.seat w.cache)) (sym c.as_mut_slice.ensures.value)
    (can_work c.args.desk.now (λ w. w.seat) (λ w. w.cache) cache_entries c.workers_of-workers.result.items c.args.seats.items c.workers_of-workers.ensures.seats c.requires.seats c.workers_of-workers.ensures.fresh)

pub returns : goal.returns
returns g c =
    let xs = c.as_mut_slice.result.now in
    let ys = c.serve_all.new.workers in
    let facts : g.row.D.Denot → DoorFacts = λ door. record { told = g.D.Door.told door; faults = g.D.Door.faults door } in
    let many : length ys ≡ length xs = search rules in
    let first : xs ≡ c.workers_of-workers.result.items = c.as_mut_slice.ensures.value in
    let len : c.workers_of-workers.result.len ≡ length ys = sym c.as_mut_slice.ensures.len ∙ sym many in
    let all = front_of_all c.workers_of-workers.result.len ys (drop (length ys) c.workers_of-workers.result.items) len in
    let back : c.deref.result.now ≡ ys = c.deref.ensures.value ∙ all in
    let seats_after : c.parted-seats.result.0.items ≡ map (λ w. w.seat) ys = c.parted-seats.ensures.seats ∙ ap (map (λ w. w.seat)) all in
    let doors_after : c.parted-seats.result.1.items ≡ map (λ w. w.door) ys = c.parted-seats.ensures.doors ∙ ap (map (λ w. w.door)) all in
    let of : Worker g.row.D.Denot g.row.D-L.Denot → Worker g.row.D.Denot g.row.D-L.Denot → Work = λ x y. record { seat_before = x.seat; seat = y.seat; door_before = facts x.door; door = facts y.door; served = y.served } in
    let failed = any_after of (λ (w : Work). w.served.door_failed) (λ w. w.served.door_failed) (λ x y. refl) xs ys many in
    let unserved = any_after of (λ (w : Work). nat_lt 0 w.served.unserved) (λ w. nat_lt 0 w.served.unserved) (λ x y. refl) xs ys many in
    record {
      works = beside of xs ys;
      seats_were = map_before of (λ (w : Work). w.seat_before) (λ w. w.seat) (λ x y. refl) xs ys many ∙ ap (map (λ w. w.seat)) first ∙ c.workers_of-workers.ensures.seats;
      seats_are = map_after of (λ (w : Work). w.seat) (λ w. w.seat) (λ x y. refl) xs ys many ∙ sym seats_after;
      doors_were = map_before of (λ (w : Work). w.door_before) (λ w. facts w.door) (λ x y. refl) xs ys many ∙ sym (map_twice facts (λ w. w.door) xs) ∙ ap (λ l. map facts (map (λ w. w.door) l)) first ∙ ap (map facts) c.workers_of-workers.ensures.doors;
      doors_are = map_after of (λ (w : Work). w.door) (λ w. facts w.door) (λ x y. refl) xs ys many ∙ sym (map_twice facts (λ w. w.door) ys) ∙ ap (map facts) (sym doors_after);
      worked = all_worked of c.args.desk.now c.args.sessions xs ys many c.serve_all.ensures.each;
      instead_is = c.instead_of-instead.ensures ∙ ap (λ l. instead_of (list_any (λ w. w.served.door_failed) l) (list_any (λ w. nat_lt 0 w.served.unserved) l)) back
          ∙ ap (λ b. instead_of b (list_any (λ w. nat_lt 0 w.served.unserved) ys)) (sym failed) ∙ ap (λ b. instead_of (any_failed (beside of xs ys)) b) (sym unserved);
    }
