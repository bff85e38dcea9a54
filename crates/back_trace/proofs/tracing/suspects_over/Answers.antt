use Rattle.std.proofs.Common.{◌≡◌, ◌∙◌, ℕ, ◌+◌, ◌/◌, ◌<◌, ◌++◌, Some, length, take, drop, get_or, replicate, false, sym, ap, subst, arith}
use Rattle.std.specs.Prelude.{Contains, filter, slice_get}
use Rattle.std.specs.List.{range_with_len}
use Rattle.std.proofs.lemmas.List.{take_at, get_or_default, length-replicate}
use Rattle.scan_model.specs.declared.fault.Fault.{Fault}
use Rattle.scan_model.specs.Marks.{is_marked}
use Rattle.scan_model.specs.Universe.{universe}
use Rattle.scan_model.specs.MatchCounts.{counts_of}
use Rattle.scan_model.specs.Suspect.{suspects}
use Rattle.log_join.proofs.Fitting.{fits_expected}
use Rattle.lane_rows.specs.GoodRows.{AreBlockRows, no_block}
use Rattle.back_trace.proofs.SuspectMarks.{block_more, marked_none, blank_marks, marks_are_suspects, outside_counts_none, if_ok}
use Rattle.back_trace.proofs.tracing.suspects_over.Goals as goal

pub side_rows-requires-clause-expected : goal.side_rows-requires-clause-expected
side_rows-requires-clause-expected c = fits_expected c.args.parts.now c.args.expected.now c.args.joined.now c.requires.expected c.requires.joined

pub side_rows-requires-clause-block : goal.side_rows-requires-clause-block
side_rows-requires-clause-block c = omega (arith, c.loop-b-test.true, ap length c.blocks-blocks.ensures, c.requires.good.count, c.circuit.ensures.fits.patterns.few)

pub loop-b-init : goal.loop-b-init
loop-b-init c =
    let t = c.args.parts.now in
    let marks = c.in_ok-marks.marks.items in
    let is : marks ≡ replicate c.universe_len.result false = c.in_ok-marks.ensures.items_if_clones_equal (λ y e. e) in
    record {
      len = ap length is ∙ length-replicate c.universe_len.result false ∙ c.universe_len.ensures;
      marked = λ logs stands. marked_none t logs marks (blank_marks marks c.universe_len.result is);
    }

pub loop-b-preserved : goal.loop-b-preserved
loop-b-preserved c =
    let t = c.args.parts.now in
    let new = c.mark_block.new.marks in
    let old = c.loop-b.marks.items in
    let b = c.loop-b.b in
    let blocks = c.args.good.now in
    let block = c.index-blocks-b.result in
    let whole : take c.loop-b.marks.len (new ++ drop (length new) old) ≡ new = take_at new (drop (length new) old) c.loop-b.marks.len (c.mark_block.auto.marks ∙ c.deref_mut.ensures.len) in
    let lt : b < length blocks = rw c.blocks-blocks.ensures at c.loop-b-test.true in
    let block_is : block ≡ get_or blocks b no_block = rw c.blocks-blocks.ensures at c.index-blocks-b.is ∙ get_or_default blocks b block no_block lt in
    let good : AreBlockRows t b block = subst (AreBlockRows t b) (sym block_is) (c.requires.good.each b lt) in
    record {
      len = ap length whole ∙ c.mark_block.auto.marks ∙ ap length c.deref_mut.ensures.value ∙ c.loop-b.invariant.len;
      marked = λ logs stands. rw whole (block_more t logs b c.in_ok-fails.fails old new c.args.expected.now block c.requires.expected c.args.joined.now.patterns c.args.joined.now.points c.in_ok-fails.ensures.len c.requires.joined
          (c.in_ok-fails.ensures.lanes logs stands) good (rw c.deref_mut.ensures.value at c.in_ok-mark_block.ensures) (c.loop-b.invariant.marked logs stands));
    }

pub returns-clause-suspects : goal.returns-clause-suspects
returns-clause-suspects c = λ logs stands.
    let t = c.args.parts.now in
    let marks = c.loop-b.marks.items in
    let whole : c.loop-b.b ≡ (length t.patterns + 511) / 512 = omega (arith, c.loop-b.auto.b-end, c.loop-b-test.false, ap length c.blocks-blocks.ensures, c.requires.good.count) in
    let listed = marks_are_suspects t logs c.loop-b.b marks whole c.loop-b.invariant.len (c.loop-b.invariant.marked logs stands) in
    if_ok c.marked_places.result (λ places. places ≡ filter (is_marked marks) (range_with_len 0 (length marks))) (λ places. places ≡ suspects t logs) (λ places is. is ∙ listed) (rw c.deref-2.ensures.value at c.marked_places.ensures)

pub returns-clause-outside : goal.returns-clause-outside
returns-clause-outside c = λ logs stands.
    let t = c.args.parts.now in
    let marks = c.loop-b.marks.items in
    let whole : c.loop-b.b ≡ (length t.patterns + 511) / 512 = omega (arith, c.loop-b.auto.b-end, c.loop-b-test.false, ap length c.blocks-blocks.ensures, c.requires.good.count) in
    let listed = marks_are_suspects t logs c.loop-b.b marks whole c.loop-b.invariant.len (c.loop-b.invariant.marked logs stands) in
    if_ok c.marked_places.result (λ places. places ≡ filter (is_marked marks) (range_with_len 0 (length marks)))
    (λ places. (k : ℕ) (f : Fault) → slice_get (universe t) k ≡ Some f → ¬ (Contains places k) → (counts_of t logs f).tfsf ≡ 0)
    (λ places is k f there out. outside_counts_none t logs c.circuit.ensures.fits c.order-order.result.now (rw c.circuit.ensures.value at c.order-order.ensures) places k f (is ∙ listed) there out) (rw c.deref-2.ensures.value at c.marked_places.ensures)
