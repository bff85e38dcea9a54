use Rattle.std.proofs.Common.{◌≡◌, ℕ, ◌<◌, true, refl, sym, ◌∙◌, subst}
use Rattle.std.proofs.Math.Bool.{and_comm}
use Rattle.scan_model.specs.ScanTest.{ScanTest}
use Rattle.lane_rows.specs.Lanes.{lane}
use Rattle.lane_rows.specs.GoodRows.{pattern_of}
use Rattle.fault_effects.specs.FaultModel.{shown_in}
use Rattle.fault_effects.specs.Readers.{IsPinOf}
use Rattle.fault_effects.proofs.Effects.{in_all, through_reader, through_both}
use Rattle.fault_effects.proofs.rooted.root_of.Goals as goal

pub downstream-lanes-requires-clause-pin : goal.downstream-lanes-requires-clause-pin
downstream-lanes-requires-clause-pin g c = rw c.requires.work.test c.in-Some.ensures.only.there

pub loop-init : goal.loop-init
loop-init g c =
    let o = c.args.work.now.observer.now in
    record {
      rooted = record {
        root = c.requires.net;
        through = in_all (g.O.Observer.model o) (g.O.Observer.block o) c.args.net c.all.result c.all.ensures;
      };
      net = refl;
    }

pub loop-preserved : goal.loop-preserved
loop-preserved g c =
    let work = c.requires.work in
    let o = c.args.work.now.observer.now in
    let t = c.args.work.now.parts.now in
    let m = g.O.Observer.model o in
    let b = g.O.Observer.block o in
    let at = c.loop.at in
    let before = c.loop.invariant in
    let reader = c.in-Some.reader in
    let lanes = c.downstream-lanes.result in
    let sole = c.in-Some.ensures in
    let Of : ScanTest → Type 0 = λ x. IsPinOf x reader.pin reader.gate in
    let step = through_reader t work.faults m work.model b at.root reader lanes sole
    (λ (j : ℕ) (lt : j < 512) (captured : m.captures (pattern_of b j) ≡ true). c.downstream-lanes.ensures reader.gate j (subst Of (sym work.test) sole.operand) lt captured) in
    record {
      rooted = record {
        root = sole.operand.there;
        through = through_both m b (shown_in m b reader.gate) at.net at.root at.lanes lanes c.and-at.result before.rooted.through step
            (λ j lt. c.and-at.ensures j lt ∙ and_comm (lane at.lanes j) (lane lanes j));
      };
      net = before.net;
    }
