use Rattle.std.proofs.Common.{length}
use Rattle.sha2.specs.Sha256.{sha256}
use Rattle.diagnosis.specs.Designs.{view_report}
use Rattle.book.specs.Answers.{sign_answer}
use Rattle.book.specs.Kinds.{sign_deed}
use Rattle.desk_answers.proofs.DeskSeat.{changes_so}
use Rattle.desk_answers.proofs.desk_seat.DeskSeatSeatAtDesk.sign.Goals as goal

pub returns-clause-changed : goal.returns-clause-changed
returns-clause-changed g c =
    let v = c.args.checked.now in
    changes_so (λ limit deeds. sign_answer limit deeds v.design.name v.die (length v.logs) (sha256 (view_report v)) c.args.signer.now c.args.digest.now)
    (sign_deed c.args.self.now.number v.design.name v.die (record { revision = length v.logs; signer = c.args.signer.now; digest = c.args.digest.now })) c.args.desk.now c.args.self.now c.sign.new.seat c.sign.result.mark c.sign.result.answer
    c.requires.belongs c.mark-mark.ensures.base c.sign.ensures
