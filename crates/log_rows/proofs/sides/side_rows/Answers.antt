use Rattle.std.proofs.Common.{◌≡◌, ℕ, ◌+◌, ◌*◌, ◌<◌, List, [], length, get_or, ap, ◌∙◌, arith}
use Rattle.std.proofs.lemmas.List.{length_push}
use Rattle.bit_rows.specs.Lanes.{lane}
use Rattle.log_rows.specs.PointRows.{is_on_at}
use Rattle.log_rows.proofs.SideRows.{each_pushed}
use Rattle.log_rows.proofs.sides.side_rows.Goals as goal

pub loop-point-preserved : goal.loop-point-preserved
loop-point-preserved c =
    let k = c.loop-point.point in
    let old = c.loop-point.rows.items in
    let pushed = c.in_ok-push.ensures.items in
    record {
      len = ap length pushed ∙ length_push old _ ∙ ap (λ (n : ℕ). n + 1) c.loop-point.invariant.len;
      lanes = λ logs stands.
          each_pushed (λ (i : ℕ) (row : List ℕ). (j : ℕ) → j < 512 → lane row j ≡ is_on_at logs c.args.expected.now c.patterns-patterns.result c.args.side (512 * c.args.block + j) i) k old
          c.push.new.self.items _ [] pushed c.loop-point.invariant.len (c.loop-point.invariant.lanes logs stands) (c.side_row.ensures logs stands);
    }

pub returns-clause-len : goal.returns-clause-len
returns-clause-len c = ap length c.from_vec.ensures ∙ c.loop-point.invariant.len ∙ omega (arith, c.loop-point.auto.point-end, c.loop-point-test.false, c.points-points.ensures)

pub returns-clause-lanes : goal.returns-clause-lanes
returns-clause-lanes c = λ logs stands j k lj lk.
    ap (λ (rows : List (List ℕ)). lane (get_or rows k []) j) c.from_vec.ensures ∙ c.loop-point.invariant.lanes logs stands k (omega (arith, lk, c.loop-point.auto.point-end, c.loop-point-test.false, c.points-points.ensures)) j lj
    ∙ ap (λ (n : ℕ). is_on_at logs c.args.expected.now n c.args.side (512 * c.args.block + j) k) c.patterns-patterns.ensures
