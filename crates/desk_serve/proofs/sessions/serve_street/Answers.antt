use Rattle.std.proofs.Common.{rules, ◌≡◌, ◌<◌, length, map, ap, sym, subst, ◌∙◌, refl, inl, inr, arith}
use Rattle.std.specs.Prelude.{Some}
use Rattle.std.proofs.lemmas.List.{length-map}
use Rattle.std.proofs.lemmas.List.Elements.{All-map}
use Rattle.std.specs.Io.KnownBytes.{append_known}
use Rattle.desk_outside.specs.Bytes.{AddsPart}
use Rattle.desk_outside.specs.Faults.{Rose}
use Rattle.desk_serve.specs.Doors.{DoorFacts, IsFreshDoor, Tells, with_doors_out}
use Rattle.desk_serve.proofs.Seats.{as_many_doors}
use Rattle.desk_serve.proofs.sessions.serve_street.Goals as goal

pub returns-then-is_err-clause-served : goal.returns-then-is_err-clause-served
returns-then-is_err-clause-served g c =
    let facts : g.row.S-D.Denot → DoorFacts = λ x. record { told = g.S.D.Door.told x; faults = g.S.D.Door.faults x } in
    let doors = c.take_doors.new.doors.items in
    let few : length doors < c.args.asked.now.workers = search rules in
    let rose : Rose (g.S.Street.faults c.args.street.now) (g.S.Street.faults c.take_doors.new.street) = search rules in
    inl record {
      instead_is = refl;
      same = refl;
      fresh = record { fresh = All-map IsFreshDoor facts doors c.take_doors.ensures.fresh; telling = λ told. All-map Tells facts doors (c.take_doors.ensures.telling told.0 told.1) };
      few = omega (arith, few, length-map doors facts);
      unwritten = refl;
      cause = rose;
    }

pub returns-then-is_err-2-clause-served : goal.returns-then-is_err-2-clause-served
returns-then-is_err-2-clause-served g c =
    let facts : g.row.S-D.Denot → DoorFacts = λ x. record { told = g.S.D.Door.told x; faults = g.S.D.Door.faults x } in
    let doors = c.take_doors.new.doors.items in
    let all : length doors ≡ c.args.asked.now.workers = search rules in
    let part : AddsPart (g.O.Sink.written c.args.out.now) (g.O.Sink.written c.write_all.new.out) c.as_slice.result.now = search rules in
    let rose : Rose (g.O.Sink.faults c.args.out.now) (g.O.Sink.faults c.write_all.new.out) = search rules in
    inr (inl record {
      instead_is = refl;
      same = refl;
      fresh = record { fresh = All-map IsFreshDoor facts doors c.take_doors.ensures.fresh; telling = λ told. All-map Tells facts doors (c.take_doors.ensures.telling told.0 told.1) };
      all = length-map doors facts ∙ all;
      part = subst (AddsPart (g.O.Sink.written c.args.out.now) (g.O.Sink.written c.write_all.new.out)) (c.as_slice.ensures.bytes ∙ c.first_line.ensures) part;
      cause = rose;
    })

pub returns-clause-served : goal.returns-clause-served
returns-clause-served g c =
    let facts : g.row.S-D.Denot → DoorFacts = λ x. record { told = g.S.D.Door.told x; faults = g.S.D.Door.faults x } in
    let doors = c.take_doors.new.doors.items in
    let all : length doors ≡ c.args.asked.now.workers = search rules in
    let wrote : g.O.Sink.written c.write_all.new.out ≡ append_known (g.O.Sink.written c.args.out.now) c.as_slice.result.now = search rules in
    inr (inr record {
      doors = map facts doors;
      fresh = record { fresh = All-map IsFreshDoor facts doors c.take_doors.ensures.fresh; telling = λ told. All-map Tells facts doors (c.take_doors.ensures.telling told.0 told.1) };
      all = length-map doors facts ∙ all;
      wrote = wrote ∙ ap (append_known (g.O.Sink.written c.args.out.now)) (c.as_slice.ensures.bytes ∙ c.first_line.ensures);
      served = c.serve_doors.ensures;
    })

pub returns-clause-out : goal.returns-clause-out
returns-clause-out g c told is =
    let facts : g.row.S-D.Denot → DoorFacts = λ x. record { told = g.S.D.Door.told x; faults = g.S.D.Door.faults x } in
    let many = as_many_doors _ _ _ _ _ _ _ c.serve_doors.ensures in
    let same : length c.take_doors.new.doors.items ≡ length c.serve_doors.result.doors.items = sym (length-map c.take_doors.new.doors.items facts) ∙ sym many ∙ length-map c.serve_doors.result.doors.items facts in
    c.take_doors.ensures.out told is ∙ ap (λ n. Some (with_doors_out told c.args.asked.now.port n)) same
