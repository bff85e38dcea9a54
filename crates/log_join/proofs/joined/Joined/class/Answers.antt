use Rattle.std.proofs.Common.{◌≡◌, ◌<◌, refl, sym, subst, ◌∙◌}
use Rattle.scan_model.specs.Classes.{some_fails, some_passes}
use Rattle.log_join.specs.Joining.{JoinedBits, StandsFor}
use Rattle.log_join.proofs.joined.Joined.class.Goals as goal

pub returns : goal.returns
returns c = λ logs stands.
    let at = c.args.at.now in
    let here = subst (StandsFor logs) (sym c.self.view_is) stands in
    let pattern = subst (λ (seen : JoinedBits). at.pattern < seen.patterns) (sym c.self.view_is) c.requires.pattern in
    let point = subst (λ (seen : JoinedBits). at.point < seen.points) (sym c.self.view_is) c.requires.point in
    let failed : c.bit-failed.result ≡ some_fails logs at = (rw c.deref.ensures.value at c.bit-failed.ensures) ∙ here.failed at.pattern at.point pattern point in
    let passed : c.bit-passed.result ≡ some_passes logs at = (rw c.deref-2.ensures.value at c.bit-passed.ensures) ∙ here.passed at.pattern at.point pattern point in
    c.class_by.ensures ∙ rw (failed, passed, c.get.ensures) refl
