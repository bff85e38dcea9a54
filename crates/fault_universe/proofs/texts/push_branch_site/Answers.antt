use Rattle.std.proofs.Common.{◌≡◌, ◌∷◌, ◌++◌, get_or, ap, sym, append_assoc, ◌∙◌}
use Rattle.std.specs.Prelude.{codes}
use Rattle.std.proofs.lemmas.List.{get_or_default}
use Rattle.std.proofs.lemmas.Result.{on_ok_weaker}
use Rattle.scan_model.specs.declared.circuit.Pin.{Pin}
use Rattle.scan_model.specs.declared.circuit.PinPlace.TheVariants.{Operand}
use Rattle.scan_model.specs.Netlist.{no_pin, pin_at}
use Rattle.scan_model.specs.ScanTest.{name_of}
use Rattle.scan_model.specs.ReportText.{spaced, branch_words}
use Rattle.fault_universe.proofs.SpacedWords.{words_are}
use Rattle.fault_universe.proofs.texts.push_branch_site.Goals as goal

pub returns : goal.returns
returns c =
    let t = c.args.parts.now in
    let line = c.args.line.now in
    let past : Pin = record { net = 0; place = Operand 0 0 } in
    let pin : Pin = get_or t.netlist.pins c.args.pin past in
    let name = name_of t pin.net in
    let named : (line ++ codes "branch ") ++ name ≡ (line ++ codes "branch") ++ 32 ∷ name = append_assoc line (codes "branch ") name ∙ sym (append_assoc line (codes "branch") (32 ∷ name)) in
    let there : pin ≡ pin_at t.netlist c.args.pin = get_or_default t.netlist.pins c.args.pin past no_pin c.requires in
    on_ok_weaker c.push_branch_end.result
    (λ done.
    done
    ∙ rw (c.in_ok-append-2.ensures.ok, c.in_ok-append.ensures.ok, c.net_name.ensures, c.as_slice.ensures, c.pins.ensures.value, c.circuit.ensures.value, named)
    (words_are line (codes "branch") name (branch_words t pin.place) ∙ ap (λ (p : Pin). line ++ spaced (codes "branch" ∷ name_of t p.net ∷ branch_words t p.place)) there))
    c.push_branch_end.ensures
