use Rattle.std.proofs.Common.{IfErr, subst}
use Rattle.scan_model.specs.LogText.{log_frame, log_reading}
use Rattle.text_parts.specs.ReadResults.{Fails}
use Rattle.diagnosis.specs.Cases.{CaseFacts}
use Rattle.desk_commands.proofs.die.SimulatedDie.add.Goals as goal

pub returns-then-not-wants_thread-clause-fault : goal.returns-then-not-wants_thread-clause-fault
returns-then-not-wants_thread-clause-fault g c =
    subst (λ (k : CaseFacts). IfErr c.add.result (λ fault. Fails fault (log_reading (log_frame k.test k.design k.die) c.args.text))) c.self.view_is c.add.ensures.fault

pub returns-clause-fault : goal.returns-clause-fault
returns-clause-fault g c =
    subst (λ (k : CaseFacts). IfErr c.add_beside-put.result.0 (λ fault. Fails fault (log_reading (log_frame k.test k.design k.die) c.args.text))) c.self.view_is c.add_beside-put.ensures.fault
