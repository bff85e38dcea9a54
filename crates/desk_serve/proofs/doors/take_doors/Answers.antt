use Rattle.std.proofs.Common.{rules, ◌≡◌, ◌+◌, ◌∷◌, [], ◌++◌, length, ap, sym, subst, ◌∙◌, arith, length-append}
use Rattle.std.specs.Prelude.{All, Some}
use Rattle.desk_outside.specs.Doors.{fresh_door}
use Rattle.desk_serve.specs.Doors.{DoorFacts, IsFreshDoor, Tells, with_doors_out}
use Rattle.desk_serve.proofs.Lists.{all_push}
use Rattle.desk_serve.proofs.ComingHome.{one_more_out}
use Rattle.desk_serve.proofs.doors.take_doors.Goals as goal

pub loop-street-preserved : goal.loop-street-preserved
loop-street-preserved g c =
    let inv = c.loop-street.invariant in
    let door = c.in-Ok.door in
    let doors = c.loop-street.doors.items in
    let facts : g.row.S-D.Denot → DoorFacts = λ x. record { told = g.S.D.Door.told x; faults = g.S.D.Door.faults x } in
    let pushed : c.push.new.self.items ≡ doors ++ door ∷ [] = search rules in
    let more : length c.push.new.self.items ≡ length doors + 1 = ap length pushed ∙ length-append doors (door ∷ []) in
    record {
      few = omega (arith, more, c.len.ensures, c.loop-street-test.true);
      room = search rules;
      fresh = subst (All (λ x. IsFreshDoor (facts x))) (sym pushed) (all_push (λ x. IsFreshDoor (facts x)) doors door inv.fresh (record { unfailed = c.in-Ok.ensures.unfailed; unused = c.in-Ok.ensures.unused }));
      out = λ told is. (c.in-Ok.ensures.handed (with_doors_out told c.args.port (length doors)) (inv.out told is)).1 ∙ ap Some (one_more_out told c.args.port (length doors) (length c.push.new.self.items) more);
      telling = λ told is. subst (All (λ x. Tells (facts x))) (sym pushed)
          (all_push (λ x. Tells (facts x)) doors door (inv.telling told is) (fresh_door, (c.in-Ok.ensures.handed (with_doors_out told c.args.port (length doors)) (inv.out told is)).0));
      silent = λ is. c.in-Ok.ensures.silent (inv.silent is);
      later = omega (arith, inv.later, c.in-Ok.ensures.later);
    }
