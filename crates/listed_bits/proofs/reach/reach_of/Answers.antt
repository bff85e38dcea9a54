use Rattle.std.proofs.Common.{◌||◌, get_or, sym, ap, ◌∙◌}
use Rattle.std.proofs.lemmas.List.Folds.{list_any_more}
use Rattle.scan_model.specs.Coverage.{bit_of, not_after}
use Rattle.listed_bits.proofs.reach.reach_of.Goals as goal

pub loop-i-preserved : goal.loop-i-preserved
loop-i-preserved c = record {
  covered = λ w k.
      let f = get_or c.args.fails.now c.loop-i.i (record { pattern = 0; point = 0 }) in
      c.further-reach.ensures.covered w k ∙ ap (λ b. b || not_after (bit_of w k) f) (c.loop-i.invariant.covered w k)
      ∙ sym (list_any_more (not_after (bit_of w k)) c.args.fails.now c.loop-i.i (record { pattern = 0; point = 0 }) c.loop-i-test.true);
  ends = c.further-reach.ensures.ends;
}
