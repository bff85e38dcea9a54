use Rattle.std.proofs.Common.{[], length}
use Rattle.fault_effects.specs.declared.work_kind.WorkKind.TheVariants.{Cells}
use Rattle.fault_effects.specs.Shares.{IsAmong}
use Rattle.fault_effects.specs.Pieces.{IsServed}
use Rattle.fault_effects.proofs.ShareLists.{shares_fewer, among_from}
use Rattle.fault_effects.proofs.cell_shares.piece_in.Goals as goal

pub returns-in-Ok : goal.returns-in-Ok
returns-in-Ok g c =
    let w = c.args.work.now in
    let o = w.observer.now in
    let items = c.args.items.now in
    shares_fewer (g.O.Observer.means o) (g.O.Observer.model o) (g.O.Observer.block o) w.suspects.now (IsAmong items (length items)) (IsServed w.parts.now w.suspects.now Cells items) [] c.share_cells-shared.new.shares
    (among_from items) (rw c.new-shares.ensures at c.in-Ok.ensures)
