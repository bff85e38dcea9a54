use Rattle.std.proofs.Common.{◌∙◌, ℕ, ◌+◌, ◌*◌, ◌<◌, length, get_or, sym, ap, inl, inr, arith}
use Rattle.std.proofs.lemmas.Bool.{cases_eq}
use Rattle.scan_model.specs.Marks.{is_marked}
use Rattle.scan_model.specs.Coverage.{bit_of}
use Rattle.scan_model.specs.Classes.{is_failing, class_with}
use Rattle.two_frame.proofs.FanInMarks.{still_seen}
use Rattle.two_frame.proofs.reach.mark_word.Goals as goal

pub mark_point-requires : goal.mark_point-requires
mark_point-requires c =
    let point = c.loop-point.point in
    let in_nets : point < length c.args.nets.now = omega (arith, c.loop-point-test.true, c.requires.nets) in
    omega (arith, c.requires.inside point in_nets, c.loop-point.invariant.len)

pub loop-point-preserved : goal.loop-point-preserved
loop-point-preserved c =
    let inv = c.loop-point.invariant in
    let nets = c.args.nets.now in
    let expected = c.args.expected.now in
    let point = c.loop-point.point in
    let new = c.mark_point.new.marks in
    record {
      len = c.mark_point.auto.marks ∙ inv.len;
      kept = λ n marked. c.mark_point.ensures.kept n (inv.kept n marked);
      seen = λ logs stands j k j_lt k_lt.
          let w = 64 * c.args.word + j in
          elim (cases_eq k point) [
            | inl same ↦ λ there failing.
                ap (λ (m : ℕ). is_marked new (get_or nets m 0)) same
                ∙ c.mark_point.ensures.seen (c.fails_in_word-fails.ensures logs stands j j_lt there (ap (λ (m : ℕ). is_failing (class_with expected logs (bit_of w m))) (sym same) ∙ failing))
            | inr other ↦ still_seen nets expected logs c.args.joined.now.patterns w k c.loop-point.marks new c.mark_point.ensures.kept (inv.seen logs stands j k j_lt (omega (arith, k_lt, other)))
          ];
    }
