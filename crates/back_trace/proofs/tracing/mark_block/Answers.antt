use Rattle.std.proofs.Common.{◌∙◌, length, ap}
use Rattle.back_trace.proofs.SuspectMarks.{marks_begin}
use Rattle.scan_model.specs.Universe.{universe}
use Rattle.back_trace.proofs.tracing.mark_block.Goals as goal

pub mark_explained-requires-clause-traced : goal.mark_explained-requires-clause-traced
mark_explained-requires-clause-traced c = record {
  sound = c.circuit.ensures.fits;
  trace = c.in_ok-trace.ensures.trace;
  fails = ap length c.in_ok-trace.ensures.fails ∙ c.requires.fails;
  values = c.requires.values;
  few = c.requires.few;
}

pub returns : goal.returns
returns c = λ b good within.
    rw (c.in_ok-trace.ensures.fails) at (c.mark_explained.ensures b good (rw c.in_ok-trace.ensures.fails within) c.args.marks.now (marks_begin c.args.parts.now b c.in_ok-trace.trace.fails (universe c.args.parts.now) c.args.marks.now))
