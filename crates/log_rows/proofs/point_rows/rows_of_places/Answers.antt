use Rattle.std.proofs.Common.{ℕ, ◌+◌, ◌*◌, length, ap, ◌∙◌, arith}
use Rattle.std.proofs.lemmas.List.{length_push}
use Rattle.log_rows.specs.declared.side.Side.TheVariants.{Failing, Passing}
use Rattle.log_rows.specs.PointRows.{is_on_at, no_point_row}
use Rattle.log_rows.specs.PlaceRows.{IsPlaceRow}
use Rattle.log_rows.proofs.SideRows.{each_pushed}
use Rattle.log_rows.proofs.point_rows.rows_of_places.Goals as goal

pub loop-place-preserved : goal.loop-place-preserved
loop-place-preserved c =
    let k = c.loop-place.place in
    let b = c.args.block in
    let pushed = c.in_ok-push.ensures.ok in
    record {
      len = ap length pushed ∙ length_push c.loop-place.rows _ ∙ ap (λ (n : ℕ). n + 1) c.loop-place.invariant.len;
      each = λ logs stands.
          each_pushed (IsPlaceRow logs c.args.expected.now c.args.joined.now.patterns b) k c.loop-place.rows c.push.new.self _ no_point_row pushed c.loop-place.invariant.len (c.loop-place.invariant.each logs stands)
          (record {
            failing = λ j lt. c.side_row-failing.ensures logs stands j lt ∙ ap (λ (n : ℕ). is_on_at logs c.args.expected.now n Failing (512 * b + j) k) c.patterns-patterns.ensures;
            passing = λ j lt. c.side_row-passing.ensures logs stands j lt ∙ ap (λ (n : ℕ). is_on_at logs c.args.expected.now n Passing (512 * b + j) k) c.patterns-patterns.ensures;
          });
    }

pub returns-clause-rows : goal.returns-clause-rows
returns-clause-rows c = λ logs stands. record {
  len = c.loop-place.invariant.len ∙ omega (arith, c.loop-place.auto.place-end, c.loop-place-test.false, c.points-place-end.ensures);
  each = λ k lt. c.loop-place.invariant.each logs stands k (omega (arith, lt, c.loop-place.invariant.len));
}

pub returns-clause-len : goal.returns-clause-len
returns-clause-len c = c.loop-place.invariant.len ∙ omega (arith, c.loop-place.auto.place-end, c.loop-place-test.false, c.points-place-end.ensures)
