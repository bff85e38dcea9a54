use Rattle.std.proofs.Common.{rules, ◌≡◌, ◌*◌, length, ap, sym, subst, ◌∙◌, refl, inl, inr, true, Some, Err}
use Rattle.std.specs.Prelude.{unwrap_or, is_some}
use Rattle.desk_outside.specs.Faults.{Rose}
use Rattle.desk_outside.specs.Cabinets.{keeper_handed, keeper_home}
use Rattle.run_ends.specs.declared.ending.Ending.{Ending}
use Rattle.run_ends.specs.declared.ending.Ending.TheVariants.{Done}
use Rattle.desk_serve.specs.Runs.{order_of}
use Rattle.desk_serve.proofs.NoKeeper.{no_keeper}
use Rattle.desk_serve.proofs.Closing.{not_opened, surely_home, keeper_rose, opened_ended}
use Rattle.desk_serve.proofs.ComingHome.{rose_still, rose_later}
use Rattle.run_ends.specs.Endings.{Writes}
use Rattle.desk_serve.specs.Lines.{line_of}
use Rattle.desk_serve.specs.StreetEnd.{opened_deeds}
use Rattle.desk_outside.proofs.Out.{keeper_is_out}
use Rattle.desk_serve.proofs.Seats.{opened_of}
use Rattle.desk_serve.proofs.serving.serve.Goals as goal

pub returns-in-Err-clause-ended : goal.returns-in-Err-clause-ended
returns-in-Err-clause-ended g c =
    no_keeper (order_of c.args.asked.now)
    (record { written = g.O.Sink.written c.args.out.now; street = g.S.Street.told c.args.street.now; cabinet = g.C.Cabinet.told c.args.cabinet.now; sink_faults = g.O.Sink.faults c.args.out.now; street_faults = g.S.Street.faults c.args.street.now; cabinet_faults = g.C.Cabinet.faults c.args.cabinet.now })
    (record { written = g.O.Sink.written c.ended.new.out; street = g.S.Street.told c.args.street.now; cabinet = g.C.Cabinet.told c.keeper.new.self; sink_faults = g.O.Sink.faults c.ended.new.out; street_faults = g.S.Street.faults c.args.street.now; cabinet_faults = g.C.Cabinet.faults c.keeper.new.self })
    (c.args.street.now ≡ c.args.street.now) c.refusal.result c.ended.result refl (λ told is. inl (c.in-Err.ensures.same ∙ is)) c.refusal.ensures.one_of
    (λ is. c.in-Err.ensures.failed (ap Err (c.refusal.ensures.failed is))) c.ended.ensures.wrote

pub returns-in-Err-start-clause-ended : goal.returns-in-Err-start-clause-ended
returns-in-Err-start-clause-ended g c =
    let keeper = c.in-Ok.keeper in
    let refused = c.in-Err-start.refused in
    let mid = g.C.Cabinet.told c.keeper.new.self in
    let new = g.C.Cabinet.told c.turned_away.new.cabinet in
    let rows = g.C.K.Keeper.rows keeper in
    not_opened (order_of c.args.asked.now)
    (record { written = g.O.Sink.written c.args.out.now; street = g.S.Street.told c.args.street.now; cabinet = g.C.Cabinet.told c.args.cabinet.now; sink_faults = g.O.Sink.faults c.args.out.now; street_faults = g.S.Street.faults c.args.street.now; cabinet_faults = g.C.Cabinet.faults c.args.cabinet.now })
    (record { written = g.O.Sink.written c.turned_away.new.out; street = g.S.Street.told c.args.street.now; cabinet = g.C.Cabinet.told c.turned_away.new.cabinet; sink_faults = g.O.Sink.faults c.turned_away.new.out; street_faults = g.S.Street.faults c.args.street.now; cabinet_faults = g.C.Cabinet.faults c.turned_away.new.cabinet })
    (c.args.street.now ≡ c.args.street.now) refused.fault c.turned_away.result refl
    (λ told is.
    let handed = c.in-Ok.ensures.handed told is in
    let home = surely_home (λ k. g.C.K.Keeper.rows k) (λ k. g.C.K.Keeper.faults k) c.args.asked.now.store.now told mid new rows handed.0 handed.2 handed.1 refused.keeper (g.C.K.Keeper.faults keeper) c.in-Err-start.ensures.home c.turned_away.ensures.home c.in-Err-start.ensures.same in
    inr (handed.0, home.0, home.1))
    (λ row e told is.
    let handed = c.in-Ok.ensures.handed told is in
    let home = surely_home (λ k. g.C.K.Keeper.rows k) (λ k. g.C.K.Keeper.faults k) c.args.asked.now.store.now told mid new rows handed.0 handed.2 handed.1 refused.keeper (g.C.K.Keeper.faults keeper) c.in-Err-start.ensures.home c.turned_away.ensures.home c.in-Err-start.ensures.same in
    (handed.0, home.0, home.1, c.in-Err-start.ensures.spoiled handed.0 row handed.1 e))
    (λ e. keeper_rose (λ k. g.C.K.Keeper.faults k) refused.keeper (g.C.K.Keeper.faults keeper) (g.C.Cabinet.faults c.args.cabinet.now) (g.C.Cabinet.faults c.keeper.new.self) (g.C.Cabinet.faults c.turned_away.new.cabinet) c.in-Err-start.ensures.home c.in-Ok.ensures.unfailed (c.in-Err-start.ensures.failed e) c.turned_away.ensures.failed c.in-Ok.ensures.later)
    c.turned_away.ensures.wrote

pub serve_desk-book-requires-clause-opened : goal.serve_desk-book-requires-clause-opened
serve_desk-book-requires-clause-opened g c κs within =
    (opened_of (g.C.K.Keeper.rows c.in-Ok.keeper) c.args.asked.now.workers (g.C.K.Keeper.faults c.in-Ok.keeper) c.in-Ok-start.made.0 c.in-Ok-start.made.1 c.requires.some c.in-Ok-start.ensures.started).0

pub back-requires : goal.back-requires
back-requires g c = keeper_is_out c.args.asked.now.store.now (g.C.Cabinet.told c.args.cabinet.now) (g.C.Cabinet.told c.keeper.new.self) c.in-Ok.ensures.silent c.in-Ok.ensures.handed

pub returns-clause-ended : goal.returns-clause-ended
returns-clause-ended g c =
    let keeper = c.in-Ok.keeper in
    let made = c.in-Ok-start.made in
    let rows = g.C.K.Keeper.rows keeper in
    let started = c.in-Ok-start.ensures.started in
    let opened = opened_of rows c.args.asked.now.workers (g.C.K.Keeper.faults keeper) made.0 made.1 c.requires.some started in
    let deeds = opened_deeds made.1 in
    let book = c.serve_desk-book.result.0 in
    let instead = c.serve_desk-book.result.1 in
    let store = c.args.asked.now.store.now in
    let last : Ending = Done (c.args.asked.now.workers * c.args.asked.now.sessions) (length book.deeds) in
    let due : c.unwrap_or.result ≡ unwrap_or instead last = search rules in
    opened_ended (order_of c.args.asked.now)
    (record { written = g.O.Sink.written c.args.out.now; street = g.S.Street.told c.args.street.now; cabinet = g.C.Cabinet.told c.args.cabinet.now; sink_faults = g.O.Sink.faults c.args.out.now; street_faults = g.S.Street.faults c.args.street.now; cabinet_faults = g.C.Cabinet.faults c.args.cabinet.now })
    (record { written = g.O.Sink.written c.ended-2.new.out; street = g.S.Street.told c.serve_desk-book.new.street; cabinet = g.C.Cabinet.told c.back.new.self; sink_faults = g.O.Sink.faults c.ended-2.new.out; street_faults = g.S.Street.faults c.serve_desk-book.new.street; cabinet_faults = g.C.Cabinet.faults c.back.new.self })
    (c.serve_desk-book.new.street ≡ c.args.street.now) deeds book
    (λ told is.
    let handed = c.in-Ok.ensures.handed told is in
    let same : deeds ≡ handed.0 = opened.1 handed.0 handed.1 in
    let tells : made.0.tells ≡ true = started.tells ∙ ap is_some (started.rows ∙ handed.1) in
    let kept = c.back.ensures.home (keeper_handed told store handed.0) book.deeds handed.2 (c.close.ensures.rows ∙ c.serve_desk-book.ensures.rows tells) in
    kept ∙ ap (λ n. Some (keeper_home (keeper_handed told store handed.0) book.deeds n)) c.close.ensures.faults ∙ ap (λ ds. Some (keeper_home (keeper_handed told store ds) book.deeds book.faults)) (sym same))
    c.ended-2.result (g.O.Sink.written c.serve_desk-book.new.out) (Rose (g.O.Sink.faults c.args.out.now) (g.O.Sink.faults c.serve_desk-book.new.out)) (Rose (g.O.Sink.faults c.serve_desk-book.new.out) (g.O.Sink.faults c.ended-2.new.out)) instead
    (λ r. rose_still _ _ _ r c.ended-2.ensures.later) (λ r. rose_later _ _ _ c.serve_desk-book.ensures.sink_later r) c.serve_desk-book.ensures.over
    (subst (λ e. Writes e (line_of e) c.ended-2.result (g.O.Sink.written c.serve_desk-book.new.out) (g.O.Sink.written c.ended-2.new.out) (Rose (g.O.Sink.faults c.serve_desk-book.new.out) (g.O.Sink.faults c.ended-2.new.out))) due c.ended-2.ensures.wrote)
