use Rattle.std.proofs.Common.{◌≡◌, ℕ, ◌+◌, Bool, ◌&&◌, List, [], length, get_or, sym, ap, ◌∙◌, arith}
use Rattle.std.specs.Prelude.{sum_by}
use Rattle.std.specs.List.{range_with_len}
use Rattle.std.proofs.lemmas.List.{get_or_default}
use Rattle.lane_rows.specs.Lanes.{lane, count_lanes}
use Rattle.log_rows.specs.declared.point_row.PointRow.{PointRow}
use Rattle.log_rows.specs.declared.side.Side.{Side}
use Rattle.log_rows.specs.declared.side.Side.TheVariants.{Failing, Passing}
use Rattle.fault_effects.specs.FaultModel.{Table}
use Rattle.log_rows.specs.PointRows.{no_point_row}
use Rattle.match_counts.specs.declared.flip_rows.FlipRows.{FlipRows}
use Rattle.match_counts.specs.Flips.{tallied, list_on, row_on, point_row_at}
use Rattle.match_counts.specs.Tables.{lanes_of}
use Rattle.chain_compactor.specs.CompactCounts.{differs_in, within_set}
use Rattle.chain_compactor.proofs.SparseSums.{sum_up_to, sum_next_place, absent_place, present_place}
use Rattle.chain_compactor.proofs.counts.CompactCounts.show_places.Goals as goal

-- nothing is kept of a flip
none_kept : (shown : FlipRows) → shown.failing.items ≡ [] → shown.passing.items ≡ [] → (side : Side) (m : ℕ → Bool) → tallied (list_on side shown) m ≡ 0
none_kept shown failing passing Failing m = ap (λ (rows : List (List ℕ)). tallied rows m) failing
none_kept shown failing passing Passing m = ap (λ (rows : List (List ℕ)). tallied rows m) passing

pub loop-place-init : goal.loop-place-init
loop-place-init g c = record { within = omega arith; shown = none_kept c.clear.new.self c.clear.ensures.failing c.clear.ensures.passing }

pub loop-place-preserved : goal.loop-place-preserved
loop-place-preserved g c =
    let o = c.args.self.now in
    let rows = o.rows.now in
    let set = c.args.set.now in
    let table : Table = differs_in o.parts.now o.compact.now c.args.lanes (g.C.Changes.good c.args.changes.now) (g.C.Changes.shown c.args.changes.now) in
    let from = c.loop-place.from in
    let q = c.in-Some.place in
    let next = c.in-Some.ensures in
    let row = c.differing_row-row.result in
    let read : get_or rows q c.index-self-place.result ≡ point_row_at rows q = get_or_default rows q c.index-self-place.result no_point_row next.1 in
    record {
      within = omega (arith, next.1);
      shown = λ side m.
          let f : ℕ → ℕ = lanes_of rows side (λ p j. within_set set table p j && m j) in
          c.in_ok-add_point.ensures side m
          ∙ ap (λ (n : ℕ). n + count_lanes (λ j. (lane row j && lane (row_on side (get_or rows q c.index-self-place.result)) j) && m j)) (c.loop-place.invariant.shown side m)
          ∙ ap (λ (r : PointRow). sum_by f (range_with_len 0 from) + count_lanes (λ j. (lane row j && lane (row_on side r) j) && m j)) read
          ∙ ap (λ (n : ℕ). sum_by f (range_with_len 0 from) + n) (present_place rows side set table m q row next.2 c.differing_row-row.ensures)
          ∙ sym (sum_next_place f from q next.0 (λ k low high. absent_place rows side set table m k (next.3 k low high)));
    }

pub returns : goal.returns
returns g c = λ side m.
    let o = c.args.self.now in
    let rows = o.rows.now in
    let set = c.args.set.now in
    let table : Table = differs_in o.parts.now o.compact.now c.args.lanes (g.C.Changes.good c.args.changes.now) (g.C.Changes.shown c.args.changes.now) in
    let f : ℕ → ℕ = lanes_of rows side (λ p j. within_set set table p j && m j) in
    c.loop-place.invariant.shown side m
    ∙ sym (sum_up_to f c.loop-place.from (length rows) c.loop-place.invariant.within (λ k low high. absent_place rows side set table m k (c.in_default.ensures k low high)))
