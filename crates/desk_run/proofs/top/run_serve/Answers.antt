use Rattle.std.proofs.Common.{◌≡◌, ◌∙◌, map, string_bytes, refl, ap, subst, inl, inr, arith}
use Rattle.command_words.specs.Invocations.{asked}
use Rattle.command_words.specs.CommandViews.{shown_service}
use Rattle.run_ends.specs.declared.ending.Ending.TheVariants.{NoMemory}
use Rattle.desk_serve.specs.Runs.{RunOrder, HasEnded}
use Rattle.desk_serve.proofs.NoKeeper.{no_keeper}
use Rattle.desk_run.specs.Words.{run_for}
use Rattle.desk_run.proofs.Served.{same_service}
use Rattle.desk_run.proofs.top.run_serve.Goals as goal

pub serve-requires-clause-some : goal.serve-requires-clause-some
serve-requires-clause-some g c κs within = omega (arith, c.serving_of.ensures.workers, c.in-Ok.ensures.sound.0)

pub serve-requires-clause-few : goal.serve-requires-clause-few
serve-requires-clause-few g c κs within = omega (arith, c.serving_of.ensures.workers, c.in-Ok.ensures.sound.1)

pub returns-in-Ok-clause-served : goal.returns-in-Ok-clause-served
returns-in-Ok-clause-served g c = λ service is.
    let same = same_service (asked (map string_bytes c.args.words.now)) (shown_service c.in-Ok.service) service c.in-Ok.ensures.taken is in (
      c.serve.result,
      c.status.ensures,
      subst (λ (a : RunOrder). HasEnded a
          (record { written = g.O.Sink.written c.args.out.now; street = g.S.Street.told c.args.street.now; cabinet = g.C.Cabinet.told c.args.cabinet.now; sink_faults = g.O.Sink.faults c.args.out.now; street_faults = g.S.Street.faults c.args.street.now; cabinet_faults = g.C.Cabinet.faults c.args.cabinet.now })
          (record { written = g.O.Sink.written c.serve.new.out; street = g.S.Street.told c.serve.new.street; cabinet = g.C.Cabinet.told c.serve.new.cabinet; sink_faults = g.O.Sink.faults c.serve.new.out; street_faults = g.S.Street.faults c.serve.new.street; cabinet_faults = g.C.Cabinet.faults c.serve.new.cabinet })
          (c.serve.new.street ≡ c.args.street.now) c.serve.result) (c.serving_of.ensures.asked ∙ ap run_for same) c.serve.ensures.ended,
    )

pub returns-in-Err-clause-served : goal.returns-in-Err-clause-served
returns-in-Err-clause-served g c = λ service is. (
  c.ended.result,
  c.status-in-Err.ensures,
  no_keeper (run_for service)
      (record { written = g.O.Sink.written c.args.out.now; street = g.S.Street.told c.args.street.now; cabinet = g.C.Cabinet.told c.args.cabinet.now; sink_faults = g.O.Sink.faults c.args.out.now; street_faults = g.S.Street.faults c.args.street.now; cabinet_faults = g.C.Cabinet.faults c.args.cabinet.now })
      (record { written = g.O.Sink.written c.ended.new.out; street = g.S.Street.told c.args.street.now; cabinet = g.C.Cabinet.told c.args.cabinet.now; sink_faults = g.O.Sink.faults c.ended.new.out; street_faults = g.S.Street.faults c.args.street.now; cabinet_faults = g.C.Cabinet.faults c.args.cabinet.now })
      (c.args.street.now ≡ c.args.street.now) NoMemory c.ended.result refl (λ told is. inl is) (inr refl) (λ e. absurd (cc)) c.ended.ensures.wrote,
)
