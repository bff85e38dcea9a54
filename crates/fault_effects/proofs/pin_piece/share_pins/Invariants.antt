use Rattle.fault_effects.specs.Shares.{Shares, IsAmong}
use Rattle.fault_effects.proofs.pin_piece.share_pins.Given as goal

abbrev pub invariant-loop-item : goal.invariant-loop-item
invariant-loop-item g l = Shares (g.O.Observer.means l.work.observer.now) (g.O.Observer.model l.work.observer.now) (g.O.Observer.block l.work.observer.now) l.work.suspects.now (IsAmong l.group l.item-index) l.initial.shares l.shares
