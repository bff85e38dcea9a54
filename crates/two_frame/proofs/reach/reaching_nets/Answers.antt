use Rattle.std.proofs.Common.{◌∙◌, false, length, ap}
use Rattle.std.proofs.lemmas.List.{length-replicate}
use Rattle.scan_model.specs.Netlist.{Netlist}
use Rattle.two_frame.proofs.reach.reaching_nets.Goals as goal

pub mark_reaching-requires-clause-marks : goal.mark_reaching-requires-clause-marks
mark_reaching-requires-clause-marks c =
    let n = c.len.result in
    ap length (c.deref_mut.ensures.value ∙ c.in_ok-marks.ensures.items_if_clones_equal (λ y e. e)) ∙ length-replicate n false
    ∙ c.len.ensures ∙ ap length (c.nets.ensures.value ∙ ap (λ (x : Netlist). x.nets) c.circuit.ensures.value)
