use Rattle.std.proofs.Common.{[], arith}
use Rattle.made_laws.specs.MadePatterns.{pattern_line}
use Rattle.made_designs.proofs.MorePieces.{one_more}
use Rattle.made_designs.proofs.patterns.first_patterns.Goals as goal

pub loop-pattern-preserved : goal.loop-pattern-preserved
loop-pattern-preserved c = λ seed at.
    let so_far = c.loop-pattern.invariant seed at in (
      c.in_ok-push_pattern.ensures.draws seed so_far.0,
      one_more (pattern_line seed c.args.blocks) 0 c.loop-pattern.pattern c.loop-pattern.pattern [] _ _ (omega arith) so_far.1
          (c.in_ok-push_pattern.ensures.text seed so_far.0),
    )
