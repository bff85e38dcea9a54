use Rattle.std.proofs.Common.{◌∙◌, length, ap, arith}
use Rattle.back_trace.proofs.both.mark_by_keys.Goals as goal

pub mark_traced-requires-clause-ones : goal.mark_traced-requires-clause-ones
mark_traced-requires-clause-ones c = record {
  sound = c.circuit.ensures.fits;
  trace = c.in_ok-ones.ensures.trace;
  fails = ap length c.in_ok-ones.ensures.fails ∙ c.requires.ones;
  values = c.requires.values;
  few = omega (arith, c.universe_len.ensures);
}

pub mark_traced-requires-clause-others : goal.mark_traced-requires-clause-others
mark_traced-requires-clause-others c = record {
  sound = c.circuit.ensures.fits;
  trace = c.in_ok-others.ensures.trace;
  fails = ap length c.in_ok-others.ensures.fails ∙ c.requires.others;
  values = c.requires.values;
  few = omega (arith, c.universe_len.ensures);
}

pub returns : goal.returns
returns c = λ b good ones others.
    rw (c.in_ok-ones.ensures.fails, c.in_ok-others.ensures.fails) at (c.mark_traced.ensures b good (rw c.in_ok-ones.ensures.fails ones) (rw c.in_ok-others.ensures.fails others))
