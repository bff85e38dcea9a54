use Rattle.desk_answers.proofs.DeskSeat.{looks_so}
use Rattle.desk_answers.proofs.desk_seat.DeskSeatSeatAtDesk.look_sign.Goals as goal

pub returns-clause-did : goal.returns-clause-did
returns-clause-did g c = looks_so c.args.self.now c.look_sign.new.seat c.look_sign.result.mark c.mark-mark.ensures.base c.look_sign.ensures.looks
