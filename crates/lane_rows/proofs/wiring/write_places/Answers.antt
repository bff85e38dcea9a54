use Rattle.std.proofs.Common.{◌<◌, get_or, length, ap, sym, ◌∙◌, inl, inr, arith}
use Rattle.std.proofs.lemmas.Bool.{cases_eq, both_ways}
use Rattle.scan_model.specs.Marks.{is_marked}
use Rattle.lane_rows.proofs.Written.{placed_so_far, only_placed}
use Rattle.lane_rows.proofs.wiring.write_places.Goals as goal
use Rattle.lane_rows.proofs.wiring.write_places.Goals.{then-marks-gate, else-marks-gate}

pub loop-k-preserved : goal.loop-k-preserved
loop-k-preserved c =
    let order = c.args.order.now in
    let k = c.loop-k.k in
    let inside : get_or order k 0 < length c.loop-k.places = omega (arith, c.requires.nets k 0 c.loop-k-test.true, c.loop-k.auto.places) in
    elim c.if-marks-gate.branch [
      | then-marks-gate w ↦ rw w.places-is (record {
        live = placed_so_far c.loop-k.places order k inside (is_marked c.args.marks.now) (λ i lt. c.requires.once i k lt c.loop-k-test.true) c.loop-k.invariant.live;
        only = only_placed c.loop-k.places order k inside c.loop-k.invariant.only;
      })
      | else-marks-gate w ↦ rw w.places-is (record {
        live = λ i lt live. elim (cases_eq i k) [
          | inl same ↦ absurd (both_ways (is_marked c.args.marks.now (get_or order k 0)) w.if-marks-gate.false (ap (λ m. is_marked c.args.marks.now (get_or order m 0)) (sym same) ∙ live))
          | inr other ↦ c.loop-k.invariant.live i (omega (arith, lt, other)) live
        ];
        only = c.loop-k.invariant.only;
      })
    ]
