use Rattle.std.proofs.Common.{◌≡◌, ◌+◌, ◌*◌, ◌<◌, ◌^◌, ◌&&◌, sym, subst, not, ltb, eqb, [], get_or, arith}
use Rattle.std.specs.Int.{bit_at}
use Rattle.scan_model.specs.Values.{is_unknown}
use Rattle.scan_model.specs.ChainShift.{value_at}
use Rattle.log_join.specs.Joining.{JoinedBits, StandsFor}
use Rattle.log_join.proofs.Joins.{passing_where}
use Rattle.log_join.proofs.joined.Joined.passing_word.Goals as goal

pub returns : goal.returns
returns c = λ logs stands j lt.
    let inside = c.self.inside in
    let joined : JoinedBits = record { patterns = inside.patterns; points = inside.points; failed = inside.failed.items; passed = inside.passed.items } in
    let value = value_at (get_or c.args.expected.now (64 * c.args.word + j) []) c.args.point in
    let fits : get_or c.as_slice-2.result.now (c.args.word * inside.points + c.args.point) 0 < 2 ^ 64 = omega arith in
    rw (c.as_slice.ensures.value, c.as_slice-2.ensures.value) (rw (sym c.self.view_is)
    (passing_where logs joined c.args.word c.args.point j c.decided_word-decided.result value (subst (StandsFor logs) (sym c.self.view_is) stands)
    (subst (λ (seen : JoinedBits). c.args.point < seen.points) (sym c.self.view_is) c.requires.point)
    (rw c.as_slice-2.ensures.value at fits) lt
    (subst (λ (seen : JoinedBits). eqb (bit_at c.decided_word-decided.result j) 1 ≡ (ltb (64 * c.args.word + j) seen.patterns && not (is_unknown value))) (sym c.self.view_is) (c.decided_word-decided.ensures j lt))))
