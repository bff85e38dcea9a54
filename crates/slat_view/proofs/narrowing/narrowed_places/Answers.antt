use Rattle.std.proofs.Common.{◌≡◌, ◌∙◌, ℕ, ◌+◌, ◌/◌, ◌<◌, ◌≤◌, ◌++◌, List, length, take, drop, get_or, replicate, false, sym, ap, subst, arith}
use Rattle.std.specs.Prelude.{All, filter}
use Rattle.std.specs.List.{range_with_len}
use Rattle.std.proofs.lemmas.List.{take_at, get_or_default, length-replicate}
use Rattle.std.proofs.lemmas.List.Sums.{length-filter, count_by-le-length}
use Rattle.std.proofs.lemmas.List.FromFn.{length-range_with_len}
use Rattle.std.proofs.lemmas.Result.{IfOk-weaker}
use Rattle.scan_model.specs.Marks.{is_marked}
use Rattle.scan_model.specs.Universe.{universe}
use Rattle.scan_model.proofs.Orders.{filter_range_at}
use Rattle.lane_rows.specs.GoodRows.{AreBlockRows, no_block}
use Rattle.slat_view.specs.FitMarks.{HaveFitsUpTo}
use Rattle.slat_view.specs.Tests.{HaveAllFits}
use Rattle.slat_view.proofs.NarrowedMarks.{fits_none, fits_more}
use Rattle.slat_view.proofs.FittingCandidates.{marked_fits}
use Rattle.slat_view.proofs.narrowing.narrowed_places.Goals as goal

pub loop-b-init : goal.loop-b-init
loop-b-init c =
    let marks = c.in_ok-marks.marks.items in
    let is : marks ≡ replicate c.universe_len.result false = c.in_ok-marks.ensures.items_if_clones_equal (λ y e. e) in
    record {
      len = ap length is ∙ length-replicate c.universe_len.result false ∙ c.universe_len.ensures;
      fits = λ logs stands. fits_none c.args.parts.now logs marks;
    }

pub mark_block-requires-clause-block : goal.mark_block-requires-clause-block
mark_block-requires-clause-block c =
    let t = c.args.parts.now in
    let b = c.loop-b.b in
    let blocks = c.args.good.now in
    let block = c.index-blocks-b.result in
    let lt : b < length blocks = rw c.blocks-blocks.ensures at c.loop-b-test.true in
    let block_is : block ≡ get_or blocks b no_block = rw c.blocks-blocks.ensures at c.index-blocks-b.is ∙ get_or_default blocks b block no_block lt in
    subst (AreBlockRows t b) (sym block_is) (c.requires.good.each b lt)

pub loop-b-preserved : goal.loop-b-preserved
loop-b-preserved c =
    let t = c.args.parts.now in
    let new = c.mark_block.new.marks in
    let old = c.loop-b.marks.items in
    let whole : take c.loop-b.marks.len (new ++ drop (length new) old) ≡ new = take_at new (drop (length new) old) c.loop-b.marks.len (c.mark_block.auto.marks ∙ c.deref_mut.ensures.len) in
    record {
      len = ap length whole ∙ c.mark_block.auto.marks ∙ ap length c.deref_mut.ensures.value ∙ c.loop-b.invariant.len;
      fits = λ logs stands. rw whole (fits_more t logs c.loop-b.b old new (c.loop-b.invariant.fits logs stands) (rw c.deref_mut.ensures.value at c.in_ok-mark_block.ensures logs stands));
    }

pub returns-clause-fits : goal.returns-clause-fits
returns-clause-fits c = λ logs stands.
    let t = c.args.parts.now in
    let marks = c.loop-b.marks.items in
    let whole : c.loop-b.b ≡ (length t.patterns + 511) / 512 = omega (arith, c.loop-b.auto.b-end, c.loop-b-test.false, ap length c.blocks-blocks.ensures, c.requires.good.count) in
    let have : HaveFitsUpTo t logs (length t.patterns) marks = λ p w lp lw there fitting. c.loop-b.invariant.fits logs stands p w lp (omega (arith, whole, lw)) there fitting in
    IfOk-weaker c.marked_places.result (λ places. places ≡ filter (is_marked marks) (range_with_len 0 (length marks))) (HaveAllFits t logs)
    (λ places is. subst (HaveAllFits t logs) (sym is) (marked_fits t logs marks c.loop-b.invariant.len have)) (rw c.deref.ensures.value at c.marked_places.ensures)

pub returns-clause-few : goal.returns-clause-few
returns-clause-few c =
    let t = c.args.parts.now in
    let marks = c.loop-b.marks.items in
    let n = length marks in
    IfOk-weaker c.marked_places.result (λ places. places ≡ filter (is_marked marks) (range_with_len 0 n)) (λ places. length places ≤ length (universe t))
    (λ places is. omega (arith, ap length is, length-filter (is_marked marks) (range_with_len 0 n), count_by-le-length (is_marked marks) (range_with_len 0 n), length-range_with_len 0 n, c.loop-b.invariant.len)) (rw c.deref.ensures.value at c.marked_places.ensures)

pub returns-clause-below : goal.returns-clause-below
returns-clause-below c =
    let t = c.args.parts.now in
    let marks = c.loop-b.marks.items in
    let n = length marks in
    let Below : List ℕ → Type 0 = λ ps. All (λ p. p < length (universe t)) ps in
    IfOk-weaker c.marked_places.result (λ places. places ≡ filter (is_marked marks) (range_with_len 0 n)) Below
    (λ places is. subst Below (sym is) (λ k d lk. omega (arith, (filter_range_at (is_marked marks) 0 n k d lk).1, c.loop-b.invariant.len))) (rw c.deref.ensures.value at c.marked_places.ensures)
