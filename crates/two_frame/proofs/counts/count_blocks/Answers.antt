use Rattle.std.proofs.Common.{ℕ, ◌+◌, ◌<◌, List, [], length, refl, sym, ap, subst, ◌∙◌, arith}
use Rattle.std.specs.Prelude.{Contains}
use Rattle.std.proofs.lemmas.List.Elements.{All-nil}
use Rattle.scan_model.specs.Netlist.{Netlist}
use Rattle.scan_model.specs.Walks.{IsEvaluationOrder}
use Rattle.log_rows.specs.declared.point_row.PointRow.{PointRow}
use Rattle.fault_effects.specs.declared.share.Share.{Share}
use Rattle.log_rows.specs.PlaceRows.{ArePlaceRows}
use Rattle.fault_effects.specs.Shares.{Shares, suspect_fails}
use Rattle.fault_effects.specs.Owners.{owner, suspect_at, no_suspect}
use Rattle.match_counts.specs.declared.block_count.BlockCount.{BlockCount}
use Rattle.match_counts.specs.Sides.{classes_by, AreSideRows}
use Rattle.match_counts.specs.Tables.{IsCount}
use Rattle.match_counts.specs.Totals.{AreBlockShares}
use Rattle.match_counts.proofs.BlockSums.{totals_are}
use Rattle.two_frame.specs.TwoFrame.{transitions, frame_class, frame_fails}
use Rattle.two_frame.specs.FrameModel.{frame_model}
use Rattle.two_frame.proofs.FrameFlips.{frame_model-logic}
use Rattle.two_frame.proofs.FrameResponses.{fits_frames}
use Rattle.two_frame.proofs.FrameSuspects.{suspects_among, frame_sides, transition_owner}
use Rattle.two_frame.proofs.counts.count_blocks.Goals as goal

pub rows_of_places-requires-clause-expected : goal.rows_of_places-requires-clause-expected
rows_of_places-requires-clause-expected c = fits_frames c.args.parts.now c.args.expected.now c.args.joined.now c.requires.expected c.requires.joined

pub logic_parts-requires-clause-work : goal.logic_parts-requires-clause-work
logic_parts-requires-clause-work c =
    let t = c.args.parts.now in
    let Ordered : Netlist → Type 0 = λ n. IsEvaluationOrder n c.order.result.now in
    record {
      test = refl;
      block = refl;
      ready = c.requires.good;
      clean = λ s is. is;
      faults = transitions t;
      model = frame_model-logic t c.circuit.ensures.fits c.order.result.now (subst Ordered c.circuit.ensures.value c.order.ensures) c.requires.captures;
      among = suspects_among t c.args.suspects.now c.requires.suspects c.requires.transitions;
      suspects = c.requires.suspects;
      owners = c.requires.owners;
    }

pub logic_parts-requires-clause-all : goal.logic_parts-requires-clause-all
logic_parts-requires-clause-all c = λ i lt below.
    let owner_at = owner c.args.parts.now (suspect_at c.args.suspects.now i).fault in
    let there = c.requires.owners.all i lt in
    let In : List ℕ → Type 0 = λ nets. Contains nets owner_at in
    subst In (sym c.deref-in-loop-block-2.ensures.value) (c.in_ok-nets.ensures.all owner_at below (omega (arith, there.1)))

pub loop-block-preserved : goal.loop-block-preserved
loop-block-preserved c =
    let t = c.args.parts.now in
    let m = frame_model t in
    let b = c.loop-block.block in
    let inv = c.loop-block.invariant in
    let suspects = c.args.suspects.now in
    let joined = c.args.joined.now in
    let expected = c.args.expected.now in
    let seen = c.as_slice.result.now in
    let rows = c.as_slice-in-loop-block.result.now in
    let shares = c.as_slice-in-loop-block-2.result.now in
    let Known : ℕ → Type 0 = λ i. owner t (suspect_at suspects i).fault < length t.netlist.nets + 1 in
    let Part : List (Share BlockCount) → Type 0 = λ xs. Shares (IsCount seen) m b suspects Known [] xs in
    let part : Part shares = subst Part (sym c.as_slice-in-loop-block-2.ensures) c.in_ok-shares.ensures in
    let among = suspects_among t suspects c.requires.suspects c.requires.transitions in
    let given : AreBlockShares m b seen suspects shares = record {
      right = part.right (All-nil (λ (s : Share BlockCount). IsCount seen s.part (suspect_fails m b suspects s.suspect)));
      there = λ i lt. part.there i lt (transition_owner t (suspect_at suspects i).fault c.circuit.ensures.fits (c.requires.suspects i no_suspect lt).site (among i no_suspect lt));
    } in
    let Of : List PointRow → Type 0 = λ xs. AreBlockShares m b xs suspects shares in
    let In : ℕ → Type 0 = λ n. AreBlockShares m n rows suspects shares in
    record {
      blocks = c.add_block.ensures.blocks ∙ ap (λ (n : ℕ). n + 1) inv.blocks;
      len = c.add_block.ensures.len ∙ inv.len;
      counted = λ logs stands.
          let on = classes_by (frame_class t logs) in
          let Placed : List PointRow → Type 0 = ArePlaceRows logs expected joined.patterns joined.points b in
          let Sided : ℕ → Type 0 = λ n. AreSideRows m on n rows in
          let sided = frame_sides t logs expected joined.patterns joined.points b rows c.requires.expected c.requires.joined.0 c.requires.joined.1 (subst Placed (sym c.as_slice-in-loop-block.ensures) (c.in_ok-rows.ensures.rows logs stands)) in
          c.add_block.ensures.counted m on suspects (subst Sided (sym inv.blocks) sided) (subst In (sym inv.blocks) (subst Of (c.as_slice.ensures ∙ sym c.as_slice-in-loop-block.ensures) given)) (inv.counted logs stands);
    }

pub returns-clause-totals : goal.returns-clause-totals
returns-clause-totals c = λ logs stands.
    let t = c.args.parts.now in
    totals_are (frame_model t) (length t.patterns) (frame_class t logs) (frame_fails t) c.args.suspects.now c.loop-block.totals (record { exists = λ w. refl; fails = λ f w q. refl })
    (omega (arith, c.requires.good.second.count, ap length c.blocks-block-end.ensures, c.loop-block.invariant.blocks)) (c.loop-block.invariant.counted logs stands)
