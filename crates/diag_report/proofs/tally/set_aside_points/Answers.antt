use Rattle.std.proofs.Common.{ℕ, ◌+◌, ◌*◌, ◌<◌, List, arith}
use Rattle.std.proofs.lemmas.List.Elements.{All-push}
use Rattle.scan_model.specs.Classes.{class_with}
use Rattle.diag_report.proofs.TallySteps.{aside_kept, aside_left}
use Rattle.diag_report.proofs.tally.set_aside_points.Goals.{then-bits-ne0+in_ok-push, else-bits-ne0}
use Rattle.diag_report.proofs.tally.set_aside_points.Goals as goal

pub loop-point-preserved : goal.loop-point-preserved
loop-point-preserved c =
    let k = c.loop-point.point in
    let inv = c.loop-point.invariant in
    elim c.if-bits-ne0.branch [
      | then-bits-ne0+in_ok-push b ↦
          let found : List ℕ = b.push.new.self in
          record {
            inside = rw (b.found-is, b.in_ok-push.ensures.ok) (All-push (λ k. k < c.args.points) c.loop-point.found k inv.inside (omega arith));
            aside = λ logs stands j lt there. rw (b.found-is, b.in_ok-push.ensures.ok) (aside_kept (class_with c.args.expected.now logs) (64 * c.args.word + j) k c.loop-point.found (inv.aside logs stands j lt there));
          }
      | else-bits-ne0 b ↦ record {
        inside = rw b.found-is inv.inside;
        aside = λ logs stands j lt there.
            rw b.found-is
            (aside_left (class_with c.args.expected.now logs) c.args.joined.now.patterns (64 * c.args.word + j) j c.set_aside_word-bits.result k c.loop-point.found there b.if-bits-ne0.false (c.set_aside_word-bits.ensures logs stands j lt) (inv.aside logs stands j lt there));
      }
    ]
