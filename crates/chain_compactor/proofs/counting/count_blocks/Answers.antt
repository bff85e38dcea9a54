use Rattle.std.proofs.Common.{◌≡◌, ℕ, ◌+◌, ◌<◌, List, [], length, get_or, refl, sym, ap, subst, ◌∙◌, arith}
use Rattle.std.specs.Prelude.{Contains}
use Rattle.std.proofs.lemmas.List.{get_or_read}
use Rattle.std.proofs.lemmas.List.Elements.{All-nil}
use Rattle.scan_model.specs.declared.parts.Point.TheVariants.{Output}
use Rattle.scan_model.specs.declared.values.Tri.{Tri}
use Rattle.scan_model.specs.Netlist.{Netlist}
use Rattle.scan_model.specs.Walks.{IsEvaluationOrder}
use Rattle.scan_model.specs.ScanTest.{point_at}
use Rattle.scan_model.specs.Universe.{universe}
use Rattle.scan_model.proofs.Points.{points_are_points}
use Rattle.log_join.specs.Joining.{FitsExpected}
use Rattle.lane_rows.specs.declared.block.Block.{Block}
use Rattle.lane_rows.specs.Planes.{Planes}
use Rattle.lane_rows.specs.GoodRows.{no_block, AreBlockRows}
use Rattle.packed_sim.specs.PackedParts.{block_at}
use Rattle.log_rows.specs.declared.point_row.PointRow.{PointRow}
use Rattle.fault_effects.specs.declared.share.Share.{Share}
use Rattle.log_rows.specs.PlaceRows.{ArePlaceRows}
use Rattle.fault_effects.specs.Shares.{Shares}
use Rattle.fault_effects.specs.Owners.{owner, suspect_at, no_suspect}
use Rattle.fault_effects.proofs.PointModel.{all_in_universe}
use Rattle.fault_effects.proofs.Owned.{owner_below}
use Rattle.match_counts.specs.declared.block_count.BlockCount.{BlockCount}
use Rattle.match_counts.specs.Sides.{classes_by, AreSideRows}
use Rattle.match_counts.specs.Tables.{IsCount}
use Rattle.match_counts.specs.Totals.{AreBlockShares}
use Rattle.match_counts.proofs.BlockSums.{totals_are}
use Rattle.compact_points.proofs.CompactRows.{rows_fit}
use Rattle.chain_compactor.specs.CompactMatches.{compact_class, predicts_compact_fail}
use Rattle.chain_compactor.specs.CompactModel.{compact_model}
use Rattle.chain_compactor.specs.CompactCounts.{AreExpected}
use Rattle.chain_compactor.proofs.SeenPoints.{seen_are_places}
use Rattle.chain_compactor.proofs.CompactModel.{compact_model-logic, compact_model-chain}
use Rattle.chain_compactor.proofs.BlockCounts.{compact_sides}
use Rattle.chain_compactor.proofs.counting.count_blocks.Goals as goal

pub rows_of_places-requires-clause-expected : goal.rows_of_places-requires-clause-expected
rows_of_places-requires-clause-expected c =
    let joined = c.args.joined.now in
    subst (λ (e : List (List Tri)). FitsExpected e joined) (sym c.requires.expected) (rows_fit c.args.parts.now c.args.compact.now joined c.requires.joined)

pub shown_rows-requires-clause-values : goal.shown_rows-requires-clause-values
shown_rows-requires-clause-values c =
    let g = c.args.good.now in
    let b = c.loop-block.block in
    let within : b < length g.rows = omega (arith, c.loop-block-test.true, ap length c.blocks-block-end.ensures) in
    let block : c.index-blocks-block.result ≡ block_at g b = get_or_read c.blocks-in-loop-block.result.now b c.index-blocks-block.result (omega (arith, within, ap length c.blocks-in-loop-block.ensures)) c.index-blocks-block.is no_block
    ∙ ap (λ (bs : List Block). get_or bs b no_block) c.blocks-in-loop-block.ensures in
    ap (λ (x : Block). length x.values) block ∙ c.requires.good.built.rows b within

pub invariant_of-observer : goal.invariant_of-observer
invariant_of-observer c =
    let t = c.args.parts.now in
    let k = c.args.compact.now in
    let g = c.args.good.now in
    let b = c.loop-block.block in
    let within : b < length g.rows = omega (arith, c.loop-block-test.true, ap length c.blocks-block-end.ensures) in
    let block : c.index-blocks-block.result ≡ block_at g b = get_or_read c.blocks-in-loop-block.result.now b c.index-blocks-block.result (omega (arith, within, ap length c.blocks-in-loop-block.ensures)) c.index-blocks-block.is no_block
    ∙ ap (λ (bs : List Block). get_or bs b no_block) c.blocks-in-loop-block.ensures in
    let rows : AreBlockRows t b c.index-blocks-block.result = subst (λ (x : Block). AreBlockRows t b x) (sym block) (c.requires.good.rows.each b within) in
    record {
      made = c.requires.made;
      seen_within = λ p lt. seen_are_places t k c.requires.made (point_at t p) (points_are_points t p (Output 0) lt);
      tables_right = c.in_ok-tables.ensures;
      block_within = within;
      expected_right = subst (λ (xs : List Planes). AreExpected t k b xs) (sym c.deref-in-loop-block.ensures.value) (c.in_ok-shown.ensures b rows);
      rows_len = ap length c.as_slice.ensures ∙ c.in_ok-rows.ensures.len ∙ c.requires.joined.1;
    }

pub block_parts-requires-clause-work : goal.block_parts-requires-clause-work
block_parts-requires-clause-work c =
    let t = c.args.parts.now in
    let Ordered : Netlist → Type 0 = λ n. IsEvaluationOrder n c.order.result.now in
    record {
      test = refl;
      block = refl;
      ready = c.requires.good;
      clean = λ s is. is;
      faults = universe t;
      model = compact_model-logic t c.circuit.ensures.fits c.order.result.now (subst Ordered c.circuit.ensures.value c.order.ensures) c.args.compact.now c.requires.made;
      among = all_in_universe t c.args.suspects.now c.requires.suspects;
      suspects = c.requires.suspects;
      owners = c.requires.owners;
    }

pub block_parts-requires-clause-chains : goal.block_parts-requires-clause-chains
block_parts-requires-clause-chains c = record {
  test = refl;
  good = refl;
  block = refl;
  ready = c.requires.good;
  belongs = c.requires.good;
  chains = compact_model-chain c.args.parts.now c.circuit.ensures.fits c.args.compact.now c.requires.made;
}

pub block_parts-requires-clause-all : goal.block_parts-requires-clause-all
block_parts-requires-clause-all c = λ i lt below.
    let owner_at = owner c.args.parts.now (suspect_at c.args.suspects.now i).fault in
    let there = c.requires.owners.all i lt in
    let In : List ℕ → Type 0 = λ nets. Contains nets owner_at in
    subst In (sym c.deref-in-loop-block-3.ensures.value) (c.in_ok-nets.ensures.all owner_at below (omega (arith, there.1)))

pub loop-block-preserved : goal.loop-block-preserved
loop-block-preserved c =
    let t = c.args.parts.now in
    let k = c.args.compact.now in
    let m = compact_model t k in
    let b = c.loop-block.block in
    let inv = c.loop-block.invariant in
    let suspects = c.args.suspects.now in
    let seen = c.as_slice.result.now in
    let rows = c.as_slice-in-loop-block.result.now in
    let shares = c.as_slice-in-loop-block-2.result.now in
    let Known : ℕ → Type 0 = λ i. owner t (suspect_at suspects i).fault < length t.netlist.nets + 2 in
    let Part : List (Share BlockCount) → Type 0 = λ xs. Shares (IsCount seen) m b suspects Known [] xs in
    let part : Part shares = subst Part (sym c.as_slice-in-loop-block-2.ensures) c.in_ok-shares.ensures in
    let given : AreBlockShares m b seen suspects shares = record { right = part.right (All-nil _); there = λ i lt. part.there i lt (owner_below t (suspect_at suspects i).fault c.circuit.ensures.fits (c.requires.suspects i no_suspect lt).site) } in
    let Of : List PointRow → Type 0 = λ xs. AreBlockShares m b xs suspects shares in
    let In : ℕ → Type 0 = λ n. AreBlockShares m n rows suspects shares in
    record {
      blocks = c.add_block.ensures.blocks ∙ ap (λ (n : ℕ). n + 1) inv.blocks;
      len = c.add_block.ensures.len ∙ inv.len;
      counted = λ logs stands.
          let on = classes_by (compact_class t k logs) in
          let Places : List PointRow → Type 0 = ArePlaceRows logs c.args.expected.now c.args.joined.now.patterns c.args.joined.now.points b in
          let Sided : ℕ → Type 0 = λ n. AreSideRows m on n rows in
          c.add_block.ensures.counted m on suspects
          (subst Sided (sym inv.blocks) (compact_sides t k logs c.args.expected.now c.args.joined.now.patterns c.args.joined.now.points b rows c.requires.expected c.requires.joined.0 c.requires.joined.1
          (subst Places (sym c.as_slice-in-loop-block.ensures) (c.in_ok-rows.ensures.rows logs stands))))
          (subst In (sym inv.blocks) (subst Of (c.as_slice.ensures ∙ sym c.as_slice-in-loop-block.ensures) given))
          (inv.counted logs stands);
    }

pub returns-clause-whole : goal.returns-clause-whole
returns-clause-whole c = λ logs stands.
    let t = c.args.parts.now in
    let k = c.args.compact.now in
    totals_are (compact_model t k) (length t.patterns) (compact_class t k logs) (predicts_compact_fail t k) c.args.suspects.now c.loop-block.totals (record { exists = λ w. refl; fails = λ f w q. refl })
    (omega (arith, c.requires.good.rows.count, ap length c.blocks-block-end.ensures, c.loop-block-test.false, c.loop-block.invariant.blocks)) (c.loop-block.invariant.counted logs stands)
