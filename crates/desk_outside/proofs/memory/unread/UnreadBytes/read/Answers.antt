use Rattle.std.proofs.Common.{ap, Some}
use Rattle.std.proofs.lemmas.List.{take_rest}
use Rattle.desk_outside.proofs.Parts.{cut_left}
use Rattle.desk_outside.proofs.memory.unread.UnreadBytes.read.Goals as goal

pub returns-clause-taken : goal.returns-clause-taken
returns-clause-taken c =
    let taken = rw (take_rest, c.as_slice.ensures) at c.copy_front-count.ensures.bytes in
    ap Some (cut_left c.args.self.now.bytes _ c.args.self.now.at c.copy_front-count.result taken)
