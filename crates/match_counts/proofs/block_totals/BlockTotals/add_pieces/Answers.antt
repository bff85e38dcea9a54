use Rattle.std.proofs.Common.{◌≡◌, ℕ, ◌+◌, ◌*◌, ◌^◌, List, ◌++◌, length, take, drop, sym, ap, subst, ◌∙◌, arith}
use Rattle.std.specs.Prelude.{sum_by}
use Rattle.std.specs.List.{flat_map}
use Rattle.std.proofs.lemmas.List.{take_at}
use Rattle.lane_rows.specs.Lanes.{lane, count_lanes}
use Rattle.fault_effects.specs.declared.share.Share.{Share}
use Rattle.match_counts.specs.declared.block_count.BlockCount.{BlockCount}
use Rattle.match_counts.specs.declared.totals.Total.{Total}
use Rattle.match_counts.specs.Totals.{AreTotalsAtMost, TotalsSoFar, total_at, plus}
use Rattle.match_counts.proofs.BlockSums.{AreTotalsAtMost-le, counted_next}
use Rattle.match_counts.proofs.block_totals.BlockTotals.add_pieces.Goals as goal
use Rattle.match_counts.proofs.block_totals.BlockTotals.add_pieces.Goals.{After-add_share_lists}

-- what the vectors hold once the slices are given back
totals_are : (c : After-add_share_lists) → take c.self.inside.totals.len (c.add_share_lists.new.totals ++ drop (length c.add_share_lists.new.totals) c.self.inside.totals.items) ≡ c.add_share_lists.new.totals
totals_are c = take_at c.add_share_lists.new.totals (drop (length c.add_share_lists.new.totals) c.self.inside.totals.items) c.self.inside.totals.len (c.add_share_lists.auto.totals ∙ c.deref_mut.ensures.len)

added_is : (c : After-add_share_lists) → take c.self.inside.added.len (c.add_share_lists.new.added ++ drop (length c.add_share_lists.new.added) c.self.inside.added.items) ≡ c.add_share_lists.new.added
added_is c = take_at c.add_share_lists.new.added (drop (length c.add_share_lists.new.added) c.self.inside.added.items) c.self.inside.added.len (c.add_share_lists.auto.added ∙ c.deref_mut-2.ensures.len)

pub invariant_of-self : goal.invariant_of-self
invariant_of-self c =
    let at = (goal.at.invariant_of-self c).After-add_share_lists in
    let b = c.self.inside.blocks in
    let Small : List Total → Type 0 = AreTotalsAtMost (b * 2 ^ 32) in
    let Next : List Total → Type 0 = AreTotalsAtMost ((b + 1) * 2 ^ 32) in
    record {
      few = omega (arith, c.self.invariant.few, c.failing_count.type_inv, c.from.ensures);
      small = subst Next (sym (totals_are at)) (AreTotalsAtMost-le (b * 2 ^ 32 + 2 ^ 32) ((b + 1) * 2 ^ 32) c.add_share_lists.new.totals (omega arith) (c.add_share_lists.ensures.at_most (b * 2 ^ 32) (subst Small (sym c.deref_mut.ensures.value) c.self.invariant.small)));
      len = ap length (added_is at) ∙ omega (arith, c.add_share_lists.auto.added, c.add_share_lists.auto.totals, ap length c.deref_mut.ensures.value, ap length c.deref_mut-2.ensures.value, c.self.invariant.len) ∙ sym (ap length (totals_are at));
    }

pub returns-clause-counted : goal.returns-clause-counted
returns-clause-counted c = λ m on suspects.
    let at = (goal.at.returns-clause-counted c).After-add_share_lists in
    let rows = c.args.rows.now in
    let new : TotalsSoFar = record {
      blocks = c.self.inside.blocks + 1;
      failing = c.self.inside.failing + c.from.result;
      totals = take c.self.inside.totals.len (c.add_share_lists.new.totals ++ drop (length c.add_share_lists.new.totals) c.self.inside.totals.items);
    } in
    counted_next m on suspects c.args.self.now new rows (flat_map (λ (s : List (Share BlockCount)). s) c.args.pieces.now)
    (ap (λ (s : TotalsSoFar). s.blocks + 1) c.self.view_is)
    (ap (λ (n : ℕ). c.self.inside.failing + n) (c.from.ensures ∙ c.failing_count.ensures) ∙ ap (λ (s : TotalsSoFar). s.failing + sum_by (λ r. count_lanes (lane r.failing)) rows) c.self.view_is)
    (λ truth right i has.
    ap (λ (xs : List Total). total_at xs i) (totals_are at)
    ∙ c.add_share_lists.ensures.sums truth right i has
    ∙ ap (λ (xs : List Total). plus (total_at xs i) (truth i)) (c.deref_mut.ensures.value ∙ ap (λ (s : TotalsSoFar). s.totals) c.self.view_is))
