use Rattle.std.proofs.Common.{◌+◌, length, subst}
use Rattle.std.specs.Prelude.{IfOk}
use Rattle.std.proofs.lemmas.List.{length-map}
use Rattle.scan_model.specs.declared.logs.LogFacts.{LogFacts}
use Rattle.scan_model.specs.Coverage.{FitsLog}
use Rattle.scan_model.specs.Lines.{text_lines}
use Rattle.scan_model.specs.TextFaults.{HasNoFault, IsFirstFault}
use Rattle.scan_model.specs.LogText.{LogFrame, is_shift, log_breaks, log_reading}
use Rattle.text_parts.specs.ReadResults.{Gives, IfFault}
use Rattle.chain_compactor.proofs.logs.read_compact_log.Goals as goal

pub returns-clause-reading : goal.returns-clause-reading
returns-clause-reading c = subst (λ (f : LogFrame). Gives (λ (log : LogFacts). log) c.read_framed.result (log_reading f c.args.bytes.now)) c.in_ok-frame.ensures.value c.read_framed.ensures.reading

pub returns-clause-first : goal.returns-clause-first
returns-clause-first c =
    subst (λ (f : LogFrame). IfFault c.read_framed.result (IsFirstFault (log_breaks f (text_lines c.args.bytes.now)) (length (text_lines c.args.bytes.now) + 1))) c.in_ok-frame.ensures.value c.read_framed.ensures.first

pub returns-clause-none : goal.returns-clause-none
returns-clause-none c =
    subst (λ (f : LogFrame). IfOk c.read_framed.result (λ log. HasNoFault (log_breaks f (text_lines c.args.bytes.now)) (length (text_lines c.args.bytes.now) + 1))) c.in_ok-frame.ensures.value c.read_framed.ensures.none

pub returns-clause-fits : goal.returns-clause-fits
returns-clause-fits c =
    let fits = subst (λ (f : LogFrame). IfOk c.read_framed.result (FitsLog (length f.shifts) (length f.points))) c.in_ok-frame.ensures.value c.read_framed.ensures.fits in
    rw (length-map c.args.parts.now.patterns is_shift) at fits
