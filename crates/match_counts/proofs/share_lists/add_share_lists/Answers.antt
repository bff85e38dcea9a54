use Rattle.std.proofs.Common.{◌<◌, List, [], length, replicate, false, refl, subst, sym, ◌∙◌, arith}
use Rattle.std.specs.Prelude.{All}
use Rattle.std.specs.List.{flat_map}
use Rattle.std.proofs.lemmas.List.{take_all, get_or_default}
use Rattle.fault_effects.specs.declared.share.Share.{Share}
use Rattle.match_counts.specs.declared.block_count.BlockCount.{BlockCount}
use Rattle.match_counts.specs.Totals.{AreAddedOnce}
use Rattle.match_counts.proofs.AddedShares.{each_list, next_list_added, all_added, all_at_most}
use Rattle.match_counts.proofs.share_lists.add_share_lists.Goals as goal

pub add_more-requires-clause-shares : goal.add_more-requires-clause-shares
add_more-requires-clause-shares c = λ k d lt.
    let Inside : Share BlockCount → Type 0 = λ s. s.suspect < length c.args.totals.now in
    let Of : List (Share BlockCount) → Type 0 = All Inside in
    let all : Of c.as_slice.result.now = subst Of (sym (c.as_slice.ensures ∙ c.shares-item.is)) (each_list Inside c.args.lists.now c.requires.shares c.loop-shares.shares-index c.shares-item.result c.loop-shares-test.true) in
    omega (arith, all k d lt, c.loop-shares.auto.totals)

pub loop-shares-preserved : goal.loop-shares-preserved
loop-shares-preserved c =
    let none = replicate (length c.fill.new.self) false in
    let Of : List (Share BlockCount) → Type 0 = λ xs. AreAddedOnce xs c.loop-shares.added c.loop-shares.totals c.add_more.new.added c.add_more.new.totals in
    next_list_added c.args.lists.now c.loop-shares.shares-index none c.loop-shares.added c.add_more.new.added c.args.totals.now c.loop-shares.totals c.add_more.new.totals c.loop-shares-test.true c.loop-shares.invariant
    (subst Of (c.as_slice.ensures ∙ c.shares-item.is ∙ get_or_default c.args.lists.now c.loop-shares.shares-index c.shares-item.result [] c.loop-shares-test.true) c.add_more.ensures)

-- what all lists come to
all_lists : (c : goal.After-loop-shares) → AreAddedOnce (flat_map (λ (s : List (Share BlockCount)). s) c.args.lists.now) (replicate (length c.fill.new.self) false) c.args.totals.now c.loop-shares.added c.loop-shares.totals
all_lists c =
    let Of : List (List (Share BlockCount)) → Type 0 = λ ls. AreAddedOnce (flat_map (λ (s : List (Share BlockCount)). s) ls) (replicate (length c.fill.new.self) false) c.args.totals.now c.loop-shares.added c.loop-shares.totals in
    subst Of (take_all c.loop-shares.shares-index c.args.lists.now (omega (arith, c.loop-shares-test.false))) c.loop-shares.invariant

pub returns-clause-sums : goal.returns-clause-sums
returns-clause-sums c = all_added (length c.fill.new.self) (replicate (length c.fill.new.self) false) refl c.args.totals.now (flat_map (λ (s : List (Share BlockCount)). s) c.args.lists.now) c.loop-shares.added c.loop-shares.totals (all_lists c)

pub returns-clause-at_most : goal.returns-clause-at_most
returns-clause-at_most c = all_at_most (length c.fill.new.self) (replicate (length c.fill.new.self) false) refl c.args.totals.now (flat_map (λ (s : List (Share BlockCount)). s) c.args.lists.now) c.loop-shares.added c.loop-shares.totals (all_lists c)
