use Rattle.std.proofs.Common.{◌≡◌, ◌∙◌, ℕ, ◌+◌, ◌*◌, length, ap, subst, arith}
use Rattle.scan_model.specs.Netlist.{Netlist}
use Rattle.scan_model.specs.Universe.{stems}
use Rattle.back_trace.specs.SuspectMarks.{MarksOn}
use Rattle.back_trace.proofs.Standing.{stem_stands, stem_count}
use Rattle.back_trace.proofs.marks.mark_stems.Goals as goal

pub mark_stem-requires-clause-faults : goal.mark_stem-requires-clause-faults
mark_stem-requires-clause-faults c =
    let t = c.args.parts.now in
    let nets_is : c.len-net-end.result ≡ length t.netlist.nets = c.len-net-end.ensures ∙ ap length (c.nets.ensures.value ∙ ap (λ (x : Netlist). x.nets) c.circuit.ensures.value) in
    stem_stands t c.loop-net.net (omega (arith, nets_is, c.loop-net-test.true))

pub loop-net-preserved : goal.loop-net-preserved
loop-net-preserved c = λ b good within initial so_far.
    let next : 2 * c.loop-net.net + 2 ≡ 2 * (c.loop-net.net + 1) = omega arith in
    subst (λ (n : ℕ). MarksOn c.args.parts.now c.args.block.now c.args.trace.now (2 * c.loop-net.net) n c.loop-net.marks c.mark_stem.new.marks) next c.mark_stem.ensures b good within initial (c.loop-net.invariant b good within initial so_far)

pub returns : goal.returns
returns c =
    let t = c.args.parts.now in
    let nets_is : c.len-net-end.result ≡ length t.netlist.nets = c.len-net-end.ensures ∙ ap length (c.nets.ensures.value ∙ ap (λ (x : Netlist). x.nets) c.circuit.ensures.value) in
    let whole : 2 * c.loop-net.net ≡ length (stems t) = omega (arith, nets_is, c.loop-net.auto.net-end, c.loop-net-test.false, stem_count t) in
    subst (λ (n : ℕ). MarksOn t c.args.block.now c.args.trace.now 0 n c.args.marks.now c.loop-net.marks) whole c.loop-net.invariant
