use Rattle.std.specs.Arc.{arc_value}
use Rattle.book.specs.Answers.{design_answer}
use Rattle.book.specs.Kinds.{design_deed}
use Rattle.desk_answers.proofs.DeskSeat.{changes_so}
use Rattle.desk_answers.proofs.desk_seat.DeskSeatSeatAtDesk.put_design.Goals as goal

pub returns-clause-changed : goal.returns-clause-changed
returns-clause-changed g c =
    let d = arc_value c.args.design.now in
    changes_so (λ limit deeds. design_answer limit deeds d.name d.text) (design_deed c.args.self.now.number d) c.args.desk.now c.args.self.now c.put_design.new.seat c.put_design.result.mark c.put_design.result.answer
    c.requires c.mark-mark.ensures.base c.put_design.ensures
