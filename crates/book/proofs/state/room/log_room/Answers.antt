use Rattle.book.specs.Dies.{is_die}
use Rattle.book.proofs.NumberedDesign.{position_at}
use Rattle.book.proofs.state.room.log_room.Goals as goal

pub reserve_log-requires : goal.reserve_log-requires
reserve_log-requires c =
    (position_at (is_die c.args.design.now c.args.die.now) c.find_or_make.new.self c.in_ok-place.place c.in_ok-place.ensures.place).1
