use Rattle.std.proofs.Common.{◌≡◌, length, ap, sym, ◌∙◌}
use Rattle.scan_text.proofs.patterns.read_patterns.Goals as goal

pub returns-clause-reading : goal.returns-clause-reading
returns-clause-reading c =
    let inputs : c.len.result ≡ length c.args.circuit.now.inputs = c.len.ensures ∙ ap length c.inputs.ensures.value in
    rw (inputs, c.as_slice.ensures) at c.read_framed_patterns.ensures.reading

pub returns-clause-first : goal.returns-clause-first
returns-clause-first c =
    let inputs : c.len.result ≡ length c.args.circuit.now.inputs = c.len.ensures ∙ ap length c.inputs.ensures.value in
    rw (inputs, c.as_slice.ensures) at c.read_framed_patterns.ensures.first

pub returns-clause-none : goal.returns-clause-none
returns-clause-none c =
    let inputs : c.len.result ≡ length c.args.circuit.now.inputs = c.len.ensures ∙ ap length c.inputs.ensures.value in
    rw (inputs, c.as_slice.ensures) at c.read_framed_patterns.ensures.none

pub returns-clause-fits : goal.returns-clause-fits
returns-clause-fits c =
    let inputs : c.len.result ≡ length c.args.circuit.now.inputs = c.len.ensures ∙ ap length c.inputs.ensures.value in
    rw c.as_slice.ensures at (c.read_framed_patterns.ensures.fits c.args.circuit.now (sym inputs))
