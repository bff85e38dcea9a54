use Rattle.std.proofs.Common.{◌≡◌, ◌∙◌, ℕ, ◌<◌, List, length, get_or, take, ap, subst, arith}
use Rattle.std.proofs.Math.Seq.{take-length}
use Rattle.scan_model.specs.declared.parts.Chain.{Chain}
use Rattle.scan_model.specs.ScanTest.{cells_of}
use Rattle.scan_model.specs.Universe.{universe}
use Rattle.back_trace.specs.SuspectMarks.{MarksOn}
use Rattle.back_trace.proofs.Standing.{cell_stands_at, chain_more, chain_inside, universe_count, cell_count}
use Rattle.back_trace.proofs.marks.mark_cells.Goals as goal

pub mark_chain-requires-clause-faults : goal.mark_chain-requires-clause-faults
mark_chain-requires-clause-faults c =
    let t = c.args.parts.now in
    let chain = c.index-chains-h.result in
    let chains_are : c.as_slice-chains.result.now ≡ t.chains = c.as_slice-chains.ensures ∙ c.chains.ensures.value in
    let is : length (get_or c.as_slice-chains.result.now c.loop-h.h chain).cells ≡ length (get_or t.chains c.loop-h.h chain).cells = ap (λ (cs : List Chain). length (get_or cs c.loop-h.h chain).cells) chains_are in
    let lt : c.loop-h.h < length t.chains = rw chains_are at c.loop-h-test.true in
    λ i inside. cell_stands_at t c.args.first c.loop-h.place c.loop-h.h i chain c.requires.first c.loop-h.invariant.place lt (omega (arith, inside, c.len-count.ensures, is))

pub loop-h-preserved : goal.loop-h-preserved
loop-h-preserved c =
    let t = c.args.parts.now in
    let chain = c.index-chains-h.result in
    let chains_are : c.as_slice-chains.result.now ≡ t.chains = c.as_slice-chains.ensures ∙ c.chains.ensures.value in
    let is : length (get_or c.as_slice-chains.result.now c.loop-h.h chain).cells ≡ length (get_or t.chains c.loop-h.h chain).cells = ap (λ (cs : List Chain). length (get_or cs c.loop-h.h chain).cells) chains_are in
    let lt : c.loop-h.h < length t.chains = rw chains_are at c.loop-h-test.true in
    record {
      place = omega (arith, c.loop-h.invariant.place, c.len-count.ensures, chain_more t c.loop-h.h chain lt, is);
      marks = λ b good within initial so_far. c.mark_chain.ensures b good within initial (c.loop-h.invariant.marks b good within initial so_far);
    }

pub returns : goal.returns
returns c =
    let t = c.args.parts.now in
    let chains_are : c.as_slice-chains.result.now ≡ t.chains = c.as_slice-chains.ensures ∙ c.chains.ensures.value in
    let all : c.loop-h.h ≡ length t.chains = omega (arith, ap length chains_are, c.loop-h.auto.h-end, c.loop-h-test.false) in
    let cells_are : length (cells_of (take c.loop-h.h t.chains)) ≡ length (cells_of t.chains) = ap (λ (cs : List Chain). length (cells_of cs)) (ap (λ (n : ℕ). take n t.chains) all ∙ take-length t.chains) in
    let whole : c.loop-h.place ≡ length (universe t) = omega (arith, c.loop-h.invariant.place, c.requires.first, cells_are, universe_count t, cell_count t) in
    subst (λ (n : ℕ). MarksOn t c.args.block.now c.args.trace.now c.args.first n c.args.marks.now c.loop-h.marks) whole c.loop-h.invariant.marks

pub mark_chain-requires-clause-count : goal.mark_chain-requires-clause-count
mark_chain-requires-clause-count c =
    let t = c.args.parts.now in
    let chain = c.index-chains-h.result in
    let chains_are : c.as_slice-chains.result.now ≡ t.chains = c.as_slice-chains.ensures ∙ c.chains.ensures.value in
    let is : length (get_or c.as_slice-chains.result.now c.loop-h.h chain).cells ≡ length (get_or t.chains c.loop-h.h chain).cells = ap (λ (cs : List Chain). length (get_or cs c.loop-h.h chain).cells) chains_are in
    let lt : c.loop-h.h < length t.chains = rw chains_are at c.loop-h-test.true in
    omega (arith, chain_inside t c.args.first c.loop-h.place c.loop-h.h chain c.requires.first c.loop-h.invariant.place lt, c.len-count.ensures, is, c.requires.traced.few)

pub overflow_mul-place : goal.overflow_mul-place
overflow_mul-place c =
    let t = c.args.parts.now in
    let chain = c.index-chains-h.result in
    let chains_are : c.as_slice-chains.result.now ≡ t.chains = c.as_slice-chains.ensures ∙ c.chains.ensures.value in
    let is : length (get_or c.as_slice-chains.result.now c.loop-h.h chain).cells ≡ length (get_or t.chains c.loop-h.h chain).cells = ap (λ (cs : List Chain). length (get_or cs c.loop-h.h chain).cells) chains_are in
    let lt : c.loop-h.h < length t.chains = rw chains_are at c.loop-h-test.true in
    omega (arith, chain_inside t c.args.first c.loop-h.place c.loop-h.h chain c.requires.first c.loop-h.invariant.place lt, c.len-count.ensures, is, c.requires.traced.few)

pub overflow_add-place : goal.overflow_add-place
overflow_add-place c =
    let t = c.args.parts.now in
    let chain = c.index-chains-h.result in
    let chains_are : c.as_slice-chains.result.now ≡ t.chains = c.as_slice-chains.ensures ∙ c.chains.ensures.value in
    let is : length (get_or c.as_slice-chains.result.now c.loop-h.h chain).cells ≡ length (get_or t.chains c.loop-h.h chain).cells = ap (λ (cs : List Chain). length (get_or cs c.loop-h.h chain).cells) chains_are in
    let lt : c.loop-h.h < length t.chains = rw chains_are at c.loop-h-test.true in
    omega (arith, chain_inside t c.args.first c.loop-h.place c.loop-h.h chain c.requires.first c.loop-h.invariant.place lt, c.len-count.ensures, is, c.requires.traced.few)
