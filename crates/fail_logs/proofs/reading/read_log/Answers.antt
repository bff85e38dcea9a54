use Rattle.std.proofs.Common.{◌+◌, length, subst}
use Rattle.std.specs.Prelude.{IfOk}
use Rattle.scan_model.specs.declared.logs.LogFacts.{LogFacts}
use Rattle.scan_model.specs.Lines.{text_lines}
use Rattle.scan_model.specs.TextFaults.{HasNoFault, IsFirstFault}
use Rattle.scan_model.specs.LogText.{LogFrame, log_breaks, log_reading}
use Rattle.text_parts.specs.ReadResults.{Gives, IfFault}
use Rattle.fail_logs.proofs.Before.{gives_v1}
use Rattle.fail_logs.proofs.reading.read_log.Goals as goal

pub returns-clause-reading : goal.returns-clause-reading
returns-clause-reading c = subst (λ (f : LogFrame). Gives (λ (log : LogFacts). log) c.read_framed.result (log_reading f c.args.bytes.now)) c.in_ok-frame.ensures.value c.read_framed.ensures.reading

pub returns-clause-v1 : goal.returns-clause-v1
returns-clause-v1 c = λ first.
    gives_v1 c.args.parts.now c.args.design.now c.args.die.now c.args.bytes.now c.read_framed.result first
    (subst (λ (f : LogFrame). Gives (λ (log : LogFacts). log) c.read_framed.result (log_reading f c.args.bytes.now)) c.in_ok-frame.ensures.value c.read_framed.ensures.reading)

pub returns-clause-first : goal.returns-clause-first
returns-clause-first c =
    subst (λ (f : LogFrame). IfFault c.read_framed.result (IsFirstFault (log_breaks f (text_lines c.args.bytes.now)) (length (text_lines c.args.bytes.now) + 1))) c.in_ok-frame.ensures.value c.read_framed.ensures.first

pub returns-clause-none : goal.returns-clause-none
returns-clause-none c =
    subst (λ (f : LogFrame). IfOk c.read_framed.result (λ log. HasNoFault (log_breaks f (text_lines c.args.bytes.now)) (length (text_lines c.args.bytes.now) + 1))) c.in_ok-frame.ensures.value c.read_framed.ensures.none
