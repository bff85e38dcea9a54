use Rattle.desk_answers.proofs.DeskSeat.{looks_so}
use Rattle.desk_answers.proofs.desk_seat.DeskSeatSeatAtDesk.look_die.Goals as goal

pub returns-clause-did : goal.returns-clause-did
returns-clause-did g c = looks_so c.args.self.now c.look_die.new.seat c.look_die.result.mark c.mark-mark.ensures.base c.look_die.ensures.looks
