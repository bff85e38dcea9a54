use Rattle.std.proofs.Common.{◌≡◌, Ok, subst}
use Rattle.text_parts.specs.ReadResults.{Fails}
use Rattle.scan_model.specs.NetlistText.{netlist_reading}
use Rattle.diagnosis.specs.Texts.{netlist_text, with_circuit}
use Rattle.diagnosis.specs.ReadDesigns.{shown_over}
use Rattle.diagnosis.proofs.Halting.{at_halt, comes_after, text_serves, fault_halts}
use Rattle.diagnosis.proofs.texts.read_over.Goals as goal

pub returns-in-Ok-clause-told : goal.returns-in-Ok-clause-told
returns-in-Ok-clause-told g c = λ t tells held.
    let shows = g.S.TextSource.shows in
    let text = shows c.args.netlist.now in
    let stands : netlist_reading text ≡ Ok c.in-Ok.named.circuit = subst (λ bytes. netlist_reading bytes ≡ Ok c.in-Ok.named.circuit) c.bytes.ensures c.in-Ok.ensures.reading in
    let told = c.read_with.ensures.told t tells in
    comes_after (netlist_text t) (with_circuit t) g.S.TextSource.halt (λ r. shown_over t.profile shows (text, r.circuit) r.over) (text, c.in-Ok.named.circuit) c.read_with.result
    (text_serves t.netlist t.rule netlist_reading text c.in-Ok.named.circuit held stands) told

pub returns-in-Err-clause-told : goal.returns-in-Err-clause-told
returns-in-Err-clause-told g c = λ t tells held.
    let text = g.S.TextSource.shows c.args.netlist.now in
    let fails : Fails c.in-Err.fault (netlist_reading text) = subst (λ bytes. Fails c.in-Err.fault (netlist_reading bytes)) c.bytes.ensures c.in-Err.ensures.reading in
    at_halt (netlist_text t) (with_circuit t) (g.S.TextSource.halt c.stop_for.result)
    (fault_halts t.netlist t.rule netlist_reading text c.in-Err.fault (g.S.TextSource.halt c.stop_for.result) held fails (c.stop_for.ensures.told _ t tells))
