use Rattle.std.proofs.Common.{rules, ◌≡◌, true, [], ◌∷◌, ◌++◌, length, map, Some, sym, ap, subst, ◌∙◌, inl, inr, arith, map-id}
use Rattle.std.specs.List.{list_any}
use Rattle.std.proofs.lemmas.List.{map-append, length-map}
use Rattle.std.proofs.lemmas.Iterator.Consumers.{YieldsList-turn, YieldsList-end}
use Rattle.std.proofs.lemmas.Iterator.Adapters.{YieldsList-from_vec}
use Rattle.desk_outside.specs.Streets.{StreetTold}
use Rattle.desk_outside.proofs.Out.{is_out}
use Rattle.desk_serve.specs.Doors.{DoorFacts, Tells, has_failed, with_doors_home}
use Rattle.desk_serve.proofs.Lists.{any_push}
use Rattle.desk_serve.proofs.ComingHome.{still_out, one_more_home, rose_at, rose_still}
use Rattle.desk_serve.proofs.doors.hand_back.Goals as goal

pub loop-door-init : goal.loop-door-init
loop-door-init g c = record {
  home = λ told is. is ∙ search rules;
  silent = λ is. is;
  later = omega arith;
  failed = λ e. absurd (cc);
}

pub back-requires : goal.back-requires
back-requires g c =
    let inv = c.loop-door.invariant in
    let facts : g.row.S-D.Denot → DoorFacts = λ door. record { told = g.S.D.Door.told door; faults = g.S.D.Door.faults door } in
    let turn = YieldsList-turn (YieldsList-from_vec {s = c.into_iter-door-iterator.result} c.args.doors.items (search rules) (search rules))
    c.loop-door.yielded c.loop-door.door-iterator c.loop-door.yielded_by c.next.result c.next.new.self c.in-Some.door c.in-Some.is c.next.ensures.steps in
    is_out (λ (t : StreetTold). t.out) (g.S.Street.told c.args.street.now) (g.S.Street.told c.loop-door.street) inv.silent
    (λ t e. (with_doors_home t (map facts c.loop-door.yielded), inv.home t e, still_out t (map facts c.loop-door.yielded) (length c.args.doors.items) (omega (arith, turn.0, length-map c.loop-door.yielded facts)) (c.requires.out t e)))

pub loop-door-preserved : goal.loop-door-preserved
loop-door-preserved g c =
    let inv = c.loop-door.invariant in
    let door = c.in-Some.door in
    let facts : g.row.S-D.Denot → DoorFacts = λ door. record { told = g.S.D.Door.told door; faults = g.S.D.Door.faults door } in
    let d : DoorFacts = record { told = g.S.D.Door.told door; faults = g.S.D.Door.faults door } in
    let ds = map facts c.loop-door.yielded in
    let more : map facts (c.loop-door.yielded ++ door ∷ []) ≡ ds ++ d ∷ [] = map-append facts c.loop-door.yielded (door ∷ []) in
    let turn = YieldsList-turn (YieldsList-from_vec {s = c.into_iter-door-iterator.result} c.args.doors.items (search rules) (search rules))
    c.loop-door.yielded c.loop-door.door-iterator c.loop-door.yielded_by c.next.result c.next.new.self door c.in-Some.is c.next.ensures.steps in
    record {
      home = λ told is.
          let tells : Tells d = subst (λ x. Tells (record { told = g.S.D.Door.told x; faults = g.S.D.Door.faults x })) (sym turn.1) (c.requires.telling told is (length c.loop-door.yielded) door turn.0) in
          c.back.ensures.home (with_doors_home told ds) tells.0 (inv.home told is) tells.1 ∙ ap Some (one_more_home told ds d tells.0 tells.1 ∙ ap (λ l. with_doors_home told l) (sym more));
      silent = λ is. c.back.ensures.silent (inv.silent is);
      later = omega (arith, inv.later, c.back.ensures.later);
      failed = λ e.
          elim (any_push has_failed ds d (subst (λ l. list_any has_failed l ≡ true) more e)) [
            | inl k ↦ rose_still _ _ _ (inv.failed k) c.back.ensures.later
            | inr k ↦ rose_at _ _ _ d inv.later c.back.ensures.count k
          ];
    }

pub returns-clause-home : goal.returns-clause-home
returns-clause-home g c =
    let end = YieldsList-end (YieldsList-from_vec {s = c.into_iter-door-iterator.result} c.args.doors.items (search rules) (search rules))
    c.loop-door.yielded c.loop-door.door-iterator c.loop-door.yielded_by c.next.result c.next.new.self c.in-None.is c.next.ensures.steps in
    rw (← end.0, map-id) c.loop-door.invariant.home

pub returns-clause-failed : goal.returns-clause-failed
returns-clause-failed g c =
    let end = YieldsList-end (YieldsList-from_vec {s = c.into_iter-door-iterator.result} c.args.doors.items (search rules) (search rules))
    c.loop-door.yielded c.loop-door.door-iterator c.loop-door.yielded_by c.next.result c.next.new.self c.in-None.is c.next.ensures.steps in
    rw (← end.0, map-id) c.loop-door.invariant.failed
