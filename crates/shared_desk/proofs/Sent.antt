-- A book may be sent to a thread where its keeper may.
use denote.RattleType.{RattleType}
use denote.Param.Send.{IsSend, IsSync, sendable}
use Rattle.std.proofs.Crossing as plain
use Rattle.std.proofs.MapsCrossing as maps
use Rattle.book.specs.contracts.state.designs.Designs as designs
use Rattle.book.specs.contracts.state.deeds.Deeds as deeds
use Rattle.book.specs.contracts.state.dies.Dies as dies
use Rattle.book.specs.contracts.state.die.Die as die
use Rattle.desk_outside.specs.declared.keeper.Keeper.{Ghosts}
use Rattle.book.specs.contracts.book.Book as book
use Rattle.shared_desk.specs.contracts.open_book.OpenBook as open_book
use Rattle.book.specs.contracts.state.BookState as kept
use Rattle.diagnosis.specs.contracts.log.ReadLog as log
use Rattle.die_entries.specs.contracts.sign.Sign as sign
use Rattle.diagnosis.specs.contracts.design.Design as design

log_send : IsSend log.the_row
log_send = search (sendable, plain.crosses) depth 100 fits 100000

log_sync : IsSync log.the_row
log_sync = search (sendable, plain.crosses) depth 100 fits 100000

sign_send : IsSend sign.the_row
sign_send = search (sendable, plain.crosses) depth 100 fits 100000

design_send : IsSend design.the_row
design_send = search (sendable, plain.crosses) depth 100 fits 100000

design_sync : IsSync design.the_row
design_sync = search (sendable, plain.crosses) depth 100 fits 100000

die_send : IsSend die.the_row
die_send = search (log_send, log_sync, sign_send, sendable, plain.crosses) depth 60 fits 100000

designs_send : IsSend designs.the_row
designs_send = search (design_send, design_sync, sendable, plain.crosses, maps.crosses) depth 60 fits 100000

deeds_send : IsSend deeds.the_row
deeds_send = search (sendable, plain.crosses) depth 60

dies_send : IsSend dies.the_row
dies_send = search (die_send, sendable, plain.crosses, maps.crosses) depth 60 fits 100000

pub kept_send : IsSend kept.the_row
kept_send = search (deeds_send, designs_send, dies_send, sendable, plain.crosses) depth 60 fits 100000

pub book_send : (K : RattleType) (g : Ghosts K.Denot) → IsSend K → IsSend (book.the_row K g)
book_send K g s = search (kept_send, sendable, plain.crosses) depth 60 fits 100000

pub open_book_send : (K : RattleType) (g : Ghosts K.Denot) → IsSend K → IsSend (open_book.the_row K g)
open_book_send K g s = search (book_send, sendable, plain.crosses) depth 60 fits 100000
