use Rattle.std.proofs.Common.{◌≡◌, length, ap, ◌∙◌, arith}
use Rattle.std.proofs.lemmas.Grind.{common_steps}
use Rattle.scan_model.specs.Cone.{in_fan_in}
use Rattle.scan_model.specs.Marks.{is_marked}
use Rattle.scan_model.proofs.FanSweeps.{cone_of_marks}
use Rattle.scan_model.proofs.circuit.Circuit.cone_out.Goals as goal

pub returns : goal.returns
returns c =
    let same : c.deref.result.now ≡ c.mark_fan_out.new.marks = grind (arith, common_steps) in
    let len : length c.deref.result.now ≡ length c.args.self.now.nets = grind (arith, common_steps) in
    cone_of_marks (length c.args.self.now.nets) c.deref.result.now (in_fan_in c.args.self.now c.args.net) c.marked_nets.result len (λ n lt. ap (λ marks. is_marked marks n) same ∙ c.mark_fan_out.ensures n lt) c.marked_nets.ensures
