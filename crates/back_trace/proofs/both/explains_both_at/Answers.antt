use Rattle.std.proofs.Common.{◌∙◌, sym, ap}
use Rattle.std.proofs.lemmas.Option.{get_or_from_slice_get}
use Rattle.scan_model.specs.declared.fault.Fault.{Fault}
use Rattle.scan_model.specs.Universe.{universe}
use Rattle.back_trace.specs.CommonPatterns as both
use Rattle.back_trace.specs.SuspectMarks.{no_fault}
use Rattle.back_trace.proofs.both.explains_both_at.Goals as goal

pub returns : goal.returns
returns c = λ b good ones others j lj e.
    let t = c.args.parts.now in
    let f = c.in-Some.fault in
    let same = get_or_from_slice_get (universe t) c.args.place f no_fault (sym c.fault_at.ensures.fault ∙ c.in-Some.is) in
    c.explains_both.ensures b good ones others j lj (ap (λ (x : Fault). both.explains_both t x b c.args.ones.now.fails c.args.others.now.fails j) (sym same) ∙ e)
