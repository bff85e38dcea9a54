use Rattle.std.proofs.Common.{refl, sym, ◌∙◌}
use Rattle.scan_model.specs.Universe.{universe}
use Rattle.match_counts.proofs.BitCounting.{candidates_more}
use Rattle.match_counts.proofs.plain.plain_counts.Goals as goal

pub loop-place-preserved : goal.loop-place-preserved
loop-place-preserved c = λ logs stands.
    let t = c.args.parts.now in
    c.in_ok-push_candidate.ensures
    ∙ rw (candidates_more t logs (universe t) c.loop-place.place c.in-Some.fault (sym c.in-Some.ensures.fault), c.loop-place.invariant logs stands, c.in_ok-counts.ensures logs stands) refl
