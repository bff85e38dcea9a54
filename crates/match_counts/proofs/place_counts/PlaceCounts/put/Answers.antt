use Rattle.std.proofs.Common.{◌≡◌, ◌+◌, ◌-◌, ◌<◌, length, refl, ap, arith}
use Rattle.std.proofs.lemmas.List.{get_or_read}
use Rattle.match_counts.specs.declared.block_count.BlockCount.{BlockCount}
use Rattle.log_rows.specs.declared.side.Side.{Side}
use Rattle.log_rows.specs.declared.side.Side.TheVariants.{Failing, Passing}
use Rattle.match_counts.specs.PlaceCounts.{no_count}
use Rattle.match_counts.specs.Flips.{count_on}
use Rattle.match_counts.proofs.PlaceSums.{sum_bound, part_of_sum, put_summed}
use Rattle.match_counts.proofs.place_counts.PlaceCounts.put.Goals as goal

pub overflow_sub-self : goal.overflow_sub-self
overflow_sub-self c =
    let counts = c.self.inside.places.items in
    let within : c.args.place < length counts = omega (arith, c.requires.within, ap length c.self.view_is) in
    part_of_sum counts c.self.inside.sum c.self.invariant c.args.place c.index-old.result.now within (get_or_read counts c.args.place c.index-old.result.now within c.index-old.ensures no_count) Failing

pub overflow_sub-self-2 : goal.overflow_sub-self-2
overflow_sub-self-2 c =
    let counts = c.self.inside.places.items in
    let within : c.args.place < length counts = omega (arith, c.requires.within, ap length c.self.view_is) in
    part_of_sum counts c.self.inside.sum c.self.invariant c.args.place c.index-old.result.now within (get_or_read counts c.args.place c.index-old.result.now within c.index-old.ensures no_count) Passing

pub overflow_add-self : goal.overflow_add-self
overflow_add-self c = record { fits = omega (arith, c.requires.small Failing, sum_bound c.self.inside.places.items c.self.inside.sum c.self.invariant Failing) }

pub overflow_add-self-2 : goal.overflow_add-self-2
overflow_add-self-2 c = record { fits = omega (arith, c.requires.small Passing, sum_bound c.self.inside.places.items c.self.inside.sum c.self.invariant Passing) }

pub invariant_of-self : goal.invariant_of-self
invariant_of-self c =
    let counts = c.self.inside.places.items in
    let within : c.args.place < length counts = omega (arith, c.requires.within, ap length c.self.view_is) in
    let sum : BlockCount = record { tfsf = c.self.inside.sum.tfsf - c.index-old.result.now.tfsf + c.args.count.tfsf; tpsf = c.self.inside.sum.tpsf - c.index-old.result.now.tpsf + c.args.count.tpsf } in
    put_summed counts c.self.inside.sum c.self.invariant c.args.place c.index-old.result.now c.args.count sum within (get_or_read counts c.args.place c.index-old.result.now within c.index-old.ensures no_count) c.requires.small by_side
  where
    by_side : (side : Side) → count_on side (record { tfsf = c.self.inside.sum.tfsf - c.index-old.result.now.tfsf + c.args.count.tfsf; tpsf = c.self.inside.sum.tpsf - c.index-old.result.now.tpsf + c.args.count.tpsf }) ≡ count_on side c.self.inside.sum - count_on side c.index-old.result.now + count_on side c.args.count
    by_side Failing = refl
    by_side Passing = refl
