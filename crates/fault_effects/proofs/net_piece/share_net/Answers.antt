use Rattle.std.proofs.Common.{◌≡◌, length, sym, arith}
use Rattle.std.proofs.lemmas.Bool.{eqb-true}
use Rattle.fault_effects.specs.Shares.{IsAmong}
use Rattle.fault_effects.proofs.ShareLists.{shares_none}
use Rattle.fault_effects.proofs.net_piece.share_net.Goals as goal

pub returns-then-is_empty-clause-shares : goal.returns-then-is_empty-clause-shares
returns-then-is_empty-clause-shares g c =
    let o = c.args.work.now.observer.now in
    let group = c.args.group.now in
    let none : length group ≡ 0 = eqb-true (length group) 0 (sym c.if-is_empty.ensures) in
    shares_none (g.O.Observer.means o) (g.O.Observer.model o) (g.O.Observer.block o) c.args.work.now.suspects.now (IsAmong group (length group)) c.args.shares.now (λ i lt among. omega (arith, among.1, none))

pub share_group-requires-clause-shown : goal.share_group-requires-clause-shown
share_group-requires-clause-shown g c =
    let entered = c.in_ok-lanes.ensures.region in
    record { root = entered.region.root; held = entered.region.held; shows = entered.shows }
