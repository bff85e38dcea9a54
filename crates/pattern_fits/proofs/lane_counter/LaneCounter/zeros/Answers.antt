use Rattle.std.proofs.Common.{◌≡◌, ℕ, ◌+◌, ◌-◌, ◌*◌, ◌||◌, List, length, take, not, eqb, sym, ap, ◌∙◌, arith}
use Rattle.std.specs.List.{list_any}
use Rattle.std.proofs.lemmas.List.{take_all}
use Rattle.std.proofs.lemmas.List.Folds.{list_any_more}
use Rattle.bit_rows.specs.Lanes.{lane}
use Rattle.pattern_fits.specs.LaneNumbers.{value}
use Rattle.pattern_fits.proofs.Carries.{value_zero}
use Rattle.pattern_fits.proofs.lane_counter.LaneCounter.zeros.Goals as goal

pub loop-slice-preserved : goal.loop-slice-preserved
loop-slice-preserved c = λ j lt.
    let i = c.loop-slice.slice-index in
    let slices = c.deref-slice-items.result.now in
    c.or-some.ensures j lt
    ∙ ap (λ b. b || lane c.slice-item.result j) (c.loop-slice.invariant j lt)
    ∙ ap (λ (s : List ℕ). list_any (λ x. lane x j) (take i slices) || lane s j) c.slice-item.is
    ∙ sym (list_any_more (λ x. lane x j) slices i c.slice-item.result (omega (arith, c.loop-slice-test.true)))

pub returns : goal.returns
returns c = λ j lt.
    let slices = c.deref-slice-items.result.now in
    c.not.ensures j lt
    ∙ ap not (c.loop-slice.invariant j lt ∙ ap (λ (xs : List (List ℕ)). list_any (λ x. lane x j) xs) (take_all c.loop-slice.slice-index slices (omega (arith, c.loop-slice.auto.slice-index-end, c.loop-slice-test.false))))
    ∙ value_zero slices j
    ∙ ap (λ (xs : List (List ℕ)). eqb (value xs j) 0) (c.deref-slice-items.ensures.value ∙ c.self.view_is)
