use Rattle.std.proofs.Common.{subst}
use Rattle.std.specs.Prelude.{All}
use Rattle.std.proofs.lemmas.Result.{on_ok_weaker}
use Rattle.fault_effects.specs.declared.work_kind.WorkKind.{WorkKind}
use Rattle.fault_effects.specs.declared.work_kind.WorkKind.TheVariants.{Nets, Pins}
use Rattle.fault_effects.specs.Pieces.{IsItem}
use Rattle.fault_effects.proofs.PieceShares.{list_served}
use Rattle.fault_effects.proofs.piece.share_items.Goals as goal

pub share_nets-requires-clause-nets : goal.share_nets-requires-clause-nets
share_nets-requires-clause-nets g c =
    let Each : WorkKind → Type 0 = λ kind. All (IsItem c.args.work.now.parts.now c.args.work.now.suspects.now kind) c.args.items.now in
    subst Each c.in-Nets.is c.requires.items

pub share_pins-requires-clause-group : goal.share_pins-requires-clause-group
share_pins-requires-clause-group g c =
    let Each : WorkKind → Type 0 = λ kind. All (IsItem c.args.work.now.parts.now c.args.work.now.suspects.now kind) c.args.items.now in
    subst Each c.in-Pins.is c.requires.items

pub returns-in-Nets-clause-shares : goal.returns-in-Nets-clause-shares
returns-in-Nets-clause-shares g c =
    let w = c.args.work.now in
    let o = w.observer.now in
    on_ok_weaker c.share_nets.result (list_served (g.O.Observer.means o) (g.O.Observer.model o) (g.O.Observer.block o) w.suspects.now w.parts.now c.args.items.now Nets c.args.kind c.args.shares.now c.share_nets.new.shares c.in-Nets.is) c.share_nets.ensures.shares

pub returns-in-Pins-clause-shares : goal.returns-in-Pins-clause-shares
returns-in-Pins-clause-shares g c =
    let w = c.args.work.now in
    let o = w.observer.now in
    on_ok_weaker c.share_pins.result (list_served (g.O.Observer.means o) (g.O.Observer.model o) (g.O.Observer.block o) w.suspects.now w.parts.now c.args.items.now Pins c.args.kind c.args.shares.now c.share_pins.new.shares c.in-Pins.is) c.share_pins.ensures
