use Rattle.std.specs.Arc.{arc_value}
use Rattle.book.specs.Answers.{log_answer}
use Rattle.book.specs.Kinds.{log_deed}
use Rattle.desk_answers.proofs.DeskSeat.{changes_so, log_stands}
use Rattle.desk_answers.proofs.desk_seat.DeskSeatSeatAtDesk.put_log.Goals as goal

pub put_log-requires-clause-stands : goal.put_log-requires-clause-stands
put_log-requires-clause-stands g c = log_stands c.args.self.now.seen (arc_value c.args.log.now) c.requires.log

pub returns-clause-changed : goal.returns-clause-changed
returns-clause-changed g c =
    let log = arc_value c.args.log.now in
    changes_so (λ limit deeds. log_answer limit deeds log.design log.die log.text) (log_deed c.args.self.now.number log) c.args.desk.now c.args.self.now c.put_log.new.seat c.put_log.result.mark c.put_log.result.answer
    c.requires.belongs c.mark-mark.ensures.base c.put_log.ensures
