use Rattle.std.proofs.Common.{◌≡◌, ◌∙◌, ℕ, ◌+◌, ◌*◌, ◌/◌, ◌%◌, subst, inl, inr, arith}
use Rattle.std.proofs.lemmas.Bool.{cases_eq}
use Rattle.two_frame.specs.FanInMarks.{IsSeen}
use Rattle.two_frame.proofs.FanInMarks.{still_seen}
use Rattle.two_frame.proofs.reach.mark_failing.Goals as goal

pub loop-word-preserved : goal.loop-word-preserved
loop-word-preserved c =
    let inv = c.loop-word.invariant in
    let nets = c.args.nets.now in
    let expected = c.args.expected.now in
    let joined = c.args.joined.now in
    let word = c.loop-word.word in
    let new = c.mark_word.new.marks in
    record {
      len = c.mark_word.auto.marks ∙ inv.len;
      seen = λ logs stands w k k_lt w_lt. elim (cases_eq (w / 64) word) [
        | inl same ↦
            let is : 64 * word + w % 64 ≡ w = omega (arith, same) in
            subst (λ (v : ℕ). IsSeen new nets expected logs joined.patterns v k) is (c.mark_word.ensures.seen logs stands (w % 64) k (omega arith) k_lt)
        | inr other ↦ still_seen nets expected logs joined.patterns w k c.loop-word.marks new c.mark_word.ensures.kept (inv.seen logs stands w k k_lt (omega (arith, w_lt, other)))
      ];
    }

pub returns : goal.returns
returns c = λ logs stands w k k_lt there failing.
    c.loop-word.invariant.seen logs stands w k k_lt (omega (arith, there, c.loop-word-test.false, c.loop-word.auto.word-end, c.div_ceil-word-end.ensures, c.patterns.ensures)) there failing
