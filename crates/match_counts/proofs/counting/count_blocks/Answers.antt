use Rattle.std.proofs.Common.{ℕ, ◌+◌, ◌<◌, List, [], length, refl, sym, ap, subst, ◌∙◌, arith}
use Rattle.std.specs.Prelude.{All, Contains}
use Rattle.std.specs.List.{flat_map}
use Rattle.std.proofs.lemmas.List.Elements.{All-nil}
use Rattle.scan_model.specs.Netlist.{Netlist}
use Rattle.scan_model.specs.Walks.{IsEvaluationOrder}
use Rattle.scan_model.specs.Universe.{universe}
use Rattle.scan_model.specs.Response.{predicts_fail}
use Rattle.scan_model.specs.Classes.{class}
use Rattle.log_rows.specs.declared.point_row.PointRow.{PointRow}
use Rattle.fault_effects.specs.declared.share.Share.{Share}
use Rattle.fault_effects.specs.FaultModel.{point_model}
use Rattle.log_rows.specs.PointRows.{ArePointRows}
use Rattle.fault_effects.specs.Shares.{Shares}
use Rattle.fault_effects.specs.Owners.{owner, suspect_at, no_suspect}
use Rattle.fault_effects.proofs.PointModel.{point_model-logic, point_model-chain, all_in_universe}
use Rattle.fault_effects.proofs.Owned.{owner_below}
use Rattle.match_counts.specs.declared.block_count.BlockCount.{BlockCount}
use Rattle.match_counts.specs.Sides.{classes_by, AreSideRows}
use Rattle.match_counts.specs.Tables.{IsCount}
use Rattle.match_counts.specs.Totals.{AreBlockShares}
use Rattle.match_counts.proofs.BlockSums.{totals_are}
use Rattle.match_counts.proofs.TableSums.{side_rows}
use Rattle.match_counts.proofs.counting.count_blocks.Goals as goal

pub block_shares-requires-clause-work : goal.block_shares-requires-clause-work
block_shares-requires-clause-work g c κs within =
    let t = c.args.parts.now in
    let Ordered : Netlist → Type 0 = λ n. IsEvaluationOrder n c.order.result.now in
    record {
      test = refl;
      block = refl;
      ready = c.requires.good;
      clean = λ s is. is;
      faults = universe t;
      model = point_model-logic t c.circuit.ensures.fits c.order.result.now (subst Ordered c.circuit.ensures.value c.order.ensures);
      among = all_in_universe t c.args.suspects.now c.requires.suspects;
      suspects = c.requires.suspects;
      owners = c.requires.owners;
    }

pub block_shares-requires-clause-chains : goal.block_shares-requires-clause-chains
block_shares-requires-clause-chains g c κs within = record {
  test = refl;
  good = refl;
  block = refl;
  ready = c.requires.good;
  belongs = c.requires.good;
  chains = point_model-chain c.args.parts.now c.circuit.ensures.fits;
}

pub block_shares-requires-clause-all : goal.block_shares-requires-clause-all
block_shares-requires-clause-all g c κs within = λ i lt below.
    let owner_at = owner c.args.parts.now (suspect_at c.args.suspects.now i).fault in
    let there = c.requires.owners.all i lt in
    let In : List ℕ → Type 0 = λ nets. Contains nets owner_at in
    subst In (sym c.deref-in-loop-block-2.ensures.value) (c.in_ok-nets.ensures.all owner_at below (omega (arith, there.1)))

pub add_pieces-requires-clause-shares : goal.add_pieces-requires-clause-shares
add_pieces-requires-clause-shares g c = λ k d lt.
    let Inside : List (List (Share BlockCount)) → Type 0 = λ lists. All (λ s. s.suspect < length c.args.suspects.now) (flat_map (λ (s : List (Share BlockCount)). s) lists) in
    let inside : Inside c.deref-in-loop-block-3.result.now = subst Inside (sym c.deref-in-loop-block-3.ensures.value) (c.in_ok-pieces.ensures.inside (All-nil _)) in
    omega (arith, inside k d lt, c.loop-block.invariant.len)

pub loop-block-preserved : goal.loop-block-preserved
loop-block-preserved g c =
    let t = c.args.parts.now in
    let m = point_model t in
    let b = c.loop-block.block in
    let inv = c.loop-block.invariant in
    let suspects = c.args.suspects.now in
    let seen = c.as_slice.result.now in
    let rows = c.as_slice-in-loop-block.result.now in
    let shares = flat_map (λ (s : List (Share BlockCount)). s) c.deref-in-loop-block-3.result.now in
    let Known : ℕ → Type 0 = λ i. owner t (suspect_at suspects i).fault < length t.netlist.nets + 2 in
    let Lists : List (List (Share BlockCount)) → Type 0 = λ lists. Shares (IsCount seen) m b suspects Known [] (flat_map (λ (s : List (Share BlockCount)). s) lists) in
    let part : Lists c.deref-in-loop-block-3.result.now = subst Lists (sym c.deref-in-loop-block-3.ensures.value) c.in_ok-pieces.ensures in
    let given : AreBlockShares m b seen suspects shares = record { right = part.right (All-nil _); there = λ i lt. part.there i lt (owner_below t (suspect_at suspects i).fault c.circuit.ensures.fits (c.requires.suspects i no_suspect lt).site) } in
    let Of : List PointRow → Type 0 = λ xs. AreBlockShares m b xs suspects shares in
    let In : ℕ → Type 0 = λ n. AreBlockShares m n rows suspects shares in
    record {
      blocks = c.add_pieces.ensures.blocks ∙ ap (λ (n : ℕ). n + 1) inv.blocks;
      len = c.add_pieces.ensures.len ∙ inv.len;
      counted = λ logs stands.
          let on = classes_by (class t logs) in
          let Points : List PointRow → Type 0 = ArePointRows t logs b in
          let Sided : ℕ → Type 0 = λ n. AreSideRows m on n rows in
          c.add_pieces.ensures.counted m on suspects
          (subst Sided (sym inv.blocks) (side_rows t logs b rows (subst Points (sym c.as_slice-in-loop-block.ensures) (c.in_ok-rows.ensures.rows logs stands))))
          (subst In (sym inv.blocks) (subst Of (c.as_slice.ensures ∙ sym c.as_slice-in-loop-block.ensures) given))
          (inv.counted logs stands);
    }

pub returns-clause-whole : goal.returns-clause-whole
returns-clause-whole g c = λ logs stands.
    let t = c.args.parts.now in
    totals_are (point_model t) (length t.patterns) (class t logs) (predicts_fail t) c.args.suspects.now c.loop-block.totals (record { exists = λ w. refl; fails = λ f w q. refl })
    (omega (arith, c.requires.good.rows.count, ap length c.blocks-block-end.ensures, c.loop-block.invariant.blocks)) (c.loop-block.invariant.counted logs stands)
