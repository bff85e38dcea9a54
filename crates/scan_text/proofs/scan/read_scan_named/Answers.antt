use Rattle.std.proofs.Common.{rules, ◌≡◌, List, Ok, Err, sym, ◌∙◌}
use Rattle.scan_model.specs.declared.parts.Chain.{Chain}
use Rattle.scan_model.specs.ScanText.{scan_reading}
use Rattle.text_parts.specs.ReadResults.{Fails}
use Rattle.scan_text.proofs.FirstFaults.{scan_first, scan_none}
use Rattle.scan_text.proofs.scan.read_scan_named.Goals as goal

pub returns-clause-fits : goal.returns-clause-fits
returns-clause-fits c =
    rw c.from_vec.ensures (c.in_ok-chains.ensures.fits c.args.circuit.now (sym (c.as_slice-nets.ensures ∙ c.nets.ensures.value)))

pub returns-clause-none : goal.returns-clause-none
returns-clause-none c =
    let nets : c.as_slice-nets.result.now ≡ c.args.circuit.now.nets = c.as_slice-nets.ensures ∙ c.nets.ensures.value in
    let read : scan_reading c.args.circuit.now.nets c.args.bytes.now ≡ Ok c.in_ok-chains.chains.items = rw nets at c.in_ok-chains.ensures.reading in
    scan_none (λ (chains : List Chain). chains) c.args.circuit.now.nets c.args.bytes.now (Ok c.in_ok-chains.chains.items) read

pub returns-in_err-chains-clause-first : goal.returns-in_err-chains-clause-first
returns-in_err-chains-clause-first c =
    let nets : c.as_slice-nets.result.now ≡ c.args.circuit.now.nets = c.as_slice-nets.ensures ∙ c.nets.ensures.value in
    let is : c.from_residual.result ≡ Err c.in_err-chains.field-0.0 = search rules in
    let fails : Fails c.in_err-chains.field-0.0 (scan_reading c.args.circuit.now.nets c.args.bytes.now) = rw nets at c.in_err-chains.ensures.reading in
    rw is (scan_first (λ (chains : List Chain). chains) c.args.circuit.now.nets c.args.bytes.now (Err c.in_err-chains.field-0.0) fails)
