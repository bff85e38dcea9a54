use Rattle.std.proofs.Common.{get_or}
use Rattle.scan_model.specs.Coverage.{bit_of}
use Rattle.scan_model.specs.Classes.{class_with}
use Rattle.diag_report.proofs.TallySteps.{list_point, IsTallyOf-listed}
use Rattle.diag_report.proofs.tally.list_row.Goals as goal

pub loop-i-preserved : goal.loop-i-preserved
loop-i-preserved c =
    let points = c.args.points.now in
    let i = c.loop-i.i in
    let w = c.args.pattern in
    let k = get_or points i 0 in
    let inv = c.loop-i.invariant in
    record {
      listed = λ logs stands.
          list_point (class_with c.args.expected.now logs) w points i 0 c.class-class.result c.args.tally.now c.loop-i.tally c.list.new.tally c.loop-i-test.true (inv.listed logs stands) (c.class-class.ensures logs stands) c.in_ok-list.ensures;
      tally = λ n all.
          IsTallyOf-listed c.args.joined.now.points n c.loop-i.tally c.list.new.tally c.class-class.result (bit_of w k) c.in_ok-list.ensures (c.requires.points i 0 c.loop-i-test.true) (inv.tally n all);
    }
