use Rattle.std.proofs.Common.{refl, ◌∙◌}
use Rattle.scan_model.proofs.BitTables.{written_whole}
use Rattle.log_join.proofs.Steps.{listed_fit}
use Rattle.log_join.proofs.coverage.Coverage.take.Goals as goal

pub find_ends-requires-clause-fails : goal.find_ends-requires-clause-fails
find_ends-requires-clause-fails c = listed_fit c.args.facts.now c.args.patterns c.args.points c.ranges.patterns.fits c.ranges.points.fits c.requires.facts

pub returns-clause-covered : goal.returns-clause-covered
returns-clause-covered c = λ w k in_patterns in_points.
    let inside = c.self.inside in
    let tested = written_whole c.mark_tested.new.tested inside.tested.items inside.tested.len (c.mark_tested.auto.tested ∙ c.deref_mut.ensures.len) in
    let ends = written_whole c.find_ends.new.ends inside.ends.items inside.ends.len (c.find_ends.auto.ends ∙ c.deref_mut-2.ensures.len) in
    rw (tested, ends, c.mark_tested.ensures w, c.as_slice.ensures, c.find_ends.ensures.ends w k in_patterns in_points) refl
