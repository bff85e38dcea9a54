use Rattle.std.proofs.Common.{◌≡◌, ◌+◌, ◌*◌, ◌<◌, ◌&&◌, sym, subst, ltb, eqb, [], get_or, ap, ◌∙◌, arith}
use Rattle.std.specs.Int.{bit_at}
use Rattle.std.proofs.lemmas.Bool.{le-leb}
use Rattle.scan_model.specs.ChainShift.{value_at}
use Rattle.scan_model.specs.Coverage.{bit_of}
use Rattle.scan_model.specs.Classes.{class_of, is_failing}
use Rattle.log_join.specs.Joining.{JoinedBits, StandsFor}
use Rattle.log_join.proofs.Joins.{set_aside_where}
use Rattle.log_join.proofs.joined.Joined.set_aside_word.Goals as goal

pub returns : goal.returns
returns c = λ logs stands j lt.
    let inside = c.self.inside in
    let joined : JoinedBits = record { patterns = inside.patterns; points = inside.points; failed = inside.failed.items; passed = inside.passed.items } in
    let w = 64 * c.args.word + j in
    let value = value_at (get_or c.args.expected.now w []) c.args.point in
    let there = c.pattern_mask-there.ensures j lt ∙ ap (λ b. b && ltb w inside.patterns) (le-leb 0 w (omega arith)) in
    rw c.as_slice.ensures.value (rw (sym c.self.view_is)
    (set_aside_where logs joined c.args.word c.args.point j c.failing_word-failing.result c.pattern_mask-there.result value (subst (StandsFor logs) (sym c.self.view_is) stands)
    (subst (λ (seen : JoinedBits). c.args.point < seen.points) (sym c.self.view_is) c.requires.point)
    (omega arith) lt
    (subst (λ (seen : JoinedBits). eqb (bit_at c.failing_word-failing.result j) 1 ≡ (ltb w seen.patterns && is_failing (class_of logs value (bit_of w c.args.point)))) (sym c.self.view_is) (c.failing_word-failing.ensures logs stands j lt))
    there))
