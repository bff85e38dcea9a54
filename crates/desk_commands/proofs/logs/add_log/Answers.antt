use Rattle.std.proofs.Common.{◌≡◌, Err, rules}
use Rattle.desk_commands.proofs.ReadLogs.{file_stops, file_follows}
use Rattle.desk_commands.proofs.logs.add_log.Goals as goal

pub returns-in_err-text-clause-told : goal.returns-in_err-text-clause-told
returns-in_err-text-clause-told g c = λ held e.
    let is : c.from_residual.result ≡ Err c.in_err-text.field-0.0 = search rules in
    rw is (file_stops held (g.D.DieLogs.frame c.args.die.now) c.args.name.now c.in_err-text.field-0.0 (c.in_err-text.ensures.stops held e))

pub returns-clause-told : goal.returns-clause-told
returns-clause-told g c = λ held e.
    file_follows held (g.D.DieLogs.frame c.args.die.now) (g.D.DieLogs.texts c.args.die.now) (g.D.DieLogs.texts c.add_text-answer.new.self) c.args.name.now c.in_ok-text.text c.add_text-answer.result c.named.result
    (c.in_ok-text.ensures.text held e) c.in_ok-text.ensures.within c.named.ensures.named c.add_text-answer.ensures.added c.add_text-answer.ensures.fault
