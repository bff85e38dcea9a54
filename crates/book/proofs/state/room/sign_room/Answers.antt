use Rattle.std.proofs.Common.{◌∙◌, sym}
use Rattle.book.specs.Dies.{is_die}
use Rattle.book.proofs.NumberedDesign.{position_at}
use Rattle.book.proofs.state.room.sign_room.Goals as goal

pub unreachable-requires : goal.unreachable-requires
unreachable-requires c = c.requires (sym c.in_ok-place.ensures ∙ c.in_default.is)

pub reserve_sign-requires : goal.reserve_sign-requires
reserve_sign-requires c =
    (position_at (is_die c.args.design.now c.args.die.now) c.args.dies.now c.in-Some.place (sym c.in_ok-place.ensures ∙ c.in-Some.is)).1
